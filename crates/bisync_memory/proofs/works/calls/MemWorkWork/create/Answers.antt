use Rattle.std.proofs.Common.{refl, sym, inl, inr, ⊎_elim}
use Rattle.bisync_memory.specs.MemWork.{work_state}
use Rattle.bisync_memory.proofs.NameLemmas.{created-absent, created-there, created-or_not}
use Rattle.bisync_memory.proofs.works.calls.MemWorkWork.create.Goals as goal

pub returns-then-not-create-clause-creates : goal.returns-then-not-create-clause-creates
returns-then-not-create-clause-creates c =
    let did = c.if-not-create.ensures in
    let there = created-there c.args.name (work_state c.args.self.now).folder _ (sym did.made) did.folder in
    (refl, λ t. there.0, λ t. there.1)

pub returns-else-not-create-clause-creates : goal.returns-else-not-create-clause-creates
returns-else-not-create-clause-creates c =
    let did = c.if-not-create.ensures in
    let made = created-absent c.args.name (work_state c.args.self.now).folder _ (sym did.made) did.folder in
    (refl, λ t. made.0, λ t. made.1)

pub returns-in-FailDone-clause-creates : goal.returns-in-FailDone-clause-creates
returns-in-FailDone-clause-creates c =
    let either = created-or_not c.args.name (work_state c.args.self.now).folder _ c.create-in-FailDone.ensures.folder in
    (refl, ⊎_elim (λ same. inl (λ t. same)) (λ made. inr (c.in-FailDone.ensures.verdict.0, λ t. made.0, λ t. made.1)) either)
