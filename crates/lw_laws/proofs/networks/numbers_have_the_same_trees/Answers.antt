-- By the lemma.
use Rattle.lw_laws.proofs.Agreement.{same_trees}
use Rattle.lw_laws.proofs.networks.numbers_have_the_same_trees.Goals as goal

pub returns : goal.returns
returns c = λ mode inputs o is. same_trees inputs o is mode
