use Rattle.bisync_work.proofs.SetBackLaws.{keeps_then}
use Rattle.bisync_work.proofs.FallLaws.{falls_then}
use Rattle.bisync_work.proofs.base_laws.moves_follow_one_another.Goals as goal

pub returns-clause-keeps : goal.returns-clause-keeps
returns-clause-keeps c = λ limit f g h a b. keeps_then limit a b

pub returns-clause-falls : goal.returns-clause-falls
returns-clause-falls c = λ f g h a b. falls_then a b
