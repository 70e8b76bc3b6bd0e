use Rattle.bisync_model.proofs.NamesOfPaths.{refused_determined}
use Rattle.bisync_model.proofs.given_names.a_refused_loser_is_determined.Goals as goal

pub returns-clause-path : goal.returns-clause-path
returns-clause-path c = λ known paths others side t p q are also a b. (refused_determined known paths others side t p q are also a b).0

pub returns-clause-side : goal.returns-clause-side
returns-clause-side c = λ known paths others side t p q are also a b. (refused_determined known paths others side t p q are also a b).1
