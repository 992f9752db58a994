-- By the lemma.
use Rattle.lw_laws.proofs.GraphEncodes.{graph_trees}
use Rattle.lw_laws.proofs.graphs.graphs_have_the_trees.Goals as goal

pub returns : goal.returns
returns c = graph_trees
