use Rattle.std.proofs.Common.{inl, inr, rules}
use Rattle.bisync_transfer.proofs.Streaming.{ended}
use Rattle.bisync_transfer.proofs.copies.copy_file.Goals as goal

pub returns-in-Err-stream-clause-effect : goal.returns-in-Err-stream-clause-effect
returns-in-Err-stream-clause-effect g c =
    let opens = rw c.in-Ok-true.field-0-test at c.in-Ok-true.ensures.opens in
    ended _ _ _ _ _ (g.A.Remote.state c.open.new.self) _ (g.B.Remote.state c.begin.new.self) _ c.in-Err-stream.fault
    opens.1 c.begin.ensures.tree c.stream.ensures.destination_tree c.in-Err-stream.ensures.streams

pub returns-in-Err-commit-clause-effect : goal.returns-in-Err-commit-clause-effect
returns-in-Err-commit-clause-effect g c = elim c.in-Err-commit.ensures.commits [ inl kept ↦ inl (search rules) | inr done ↦ inr (search rules) ]
