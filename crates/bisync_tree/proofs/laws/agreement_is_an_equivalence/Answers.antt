use Rattle.bisync_tree.proofs.SameLemmas.{agree_refl, agree_sym, agree_trans}
use Rattle.bisync_tree.proofs.laws.agreement_is_an_equivalence.Goals as goal

pub returns : goal.returns
returns c = record { reflexive = agree_refl; symmetric = agree_sym; transitive = agree_trans }
