use Rattle.std.proofs.Common.{◌≡◌, ◌≤◌, length, sym, subst, arith}
use Rattle.std.proofs.lemmas.Grind.{common_steps}
use Rattle.bisync_text.specs.Path.{IsPath}
use Rattle.bisync_conflict.specs.Naming.{candidate_of}
use Rattle.bisync_conflict.proofs.CandidatePaths.{candidate_is_path}
use Rattle.bisync_conflict.proofs.candidates.candidate.Goals as goal

pub returns-clause-path : goal.returns-clause-path
returns-clause-path c =
    let is : c.push_suffix.new.name.items ≡ candidate_of c.args.conflict.now c.args.side c.args.path.now c.args.place = grind (arith, common_steps) in
    subst (λ name. length name ≤ 4096 → IsPath name) (sym is)
    (candidate_is_path c.args.conflict.now c.requires.suffixes c.args.side c.args.path.now c.args.place c.as_bytes.ensures.path c.requires.small)
