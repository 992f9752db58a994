-- By the lemma.
use Rattle.lw_laws.proofs.Headline.{classes_shared}
use Rattle.lw_laws.proofs.graphs.classes_are_shared_trees.Goals as goal

pub returns : goal.returns
returns c = classes_shared
