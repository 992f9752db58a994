-- By the lemma.
use Rattle.lw_laws.proofs.GraphEncodes.{graph_values}
use Rattle.lw_laws.proofs.graphs.graphs_have_the_values.Goals as goal

pub returns : goal.returns
returns c = graph_values
