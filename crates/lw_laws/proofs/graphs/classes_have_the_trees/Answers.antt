-- By the lemma.
use Rattle.lw_laws.proofs.Headline.{has_plain_trees}
use Rattle.lw_laws.proofs.graphs.classes_have_the_trees.Goals as goal

pub returns : goal.returns
returns c = has_plain_trees
