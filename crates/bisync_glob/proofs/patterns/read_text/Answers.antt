use Rattle.std.proofs.Common.{◌≡◌, ◌∙◌, sym, ap, refl, Bool, take, chars, if◌then◌else◌}
use Rattle.bisync_glob.specs.Spelling.{begins}
use Rattle.bisync_glob.specs.Refusals.{unanchored}
use Rattle.bisync_glob.specs.Building.{IsFaultBehind}
use Rattle.bisync_glob.proofs.FaultLaws.{fault_behind, some_length}
use Rattle.bisync_glob.proofs.patterns.read_text.Goals as goal
use Rattle.bisync_glob.proofs.patterns.read_text.Goals.{then-anchored, else-anchored}

pub returns-in-Err-clause-err : goal.returns-in-Err-clause-err
returns-in-Err-clause-err c =
    let front : take c.decode-len.result c.decode-len.new.room ≡ chars c.args.text.now = c.decode-len.ensures.front in
    let rest : c.unanchored-rest.result.now ≡ unanchored (chars c.args.text.now) = cc (c.unanchored-rest.ensures, c.decode-len.ensures.front) in
    let anchored : c.begins-anchored.result ≡ begins 47 (chars c.args.text.now) = cc (c.begins-anchored.ensures, c.decode-len.ensures.front) in
    let skipped : c.if-anchored.skipped ≡ (if c.begins-anchored.result then 1 else 0) = elim c.if-anchored.branch [ then-anchored w ↦ w.skipped-is ∙ rw w.if-anchored.true refl | else-anchored w ↦ w.skipped-is ∙ rw w.if-anchored.false refl ] in
    let fault : IsFaultBehind c.if-anchored.skipped c.in-Err.fault c.unanchored-rest.result.now = c.in-Err.ensures.err in
    fault_behind c.args.text.now c.if-anchored.skipped c.in-Err.fault c.requires c.utf8.text (λ e. some_length c.unanchored-rest.result.now (sym c.is_empty.ensures ∙ c.if-is_empty.false) (rest ∙ e)) (skipped ∙ ap (λ (b : Bool). if b then 1 else 0) anchored) (rw rest at fault)
