-- By the lemma.
use Rattle.lw_laws.proofs.Together.{has_the_trees}
use Rattle.lw_laws.proofs.graphs.classes_have_the_numbered_trees.Goals as goal

pub returns : goal.returns
returns c = has_the_trees
