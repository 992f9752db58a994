-- By the lemma.
use Rattle.lw_laws.proofs.GraphEncodes.{reduction_is_graph}
use Rattle.lw_laws.proofs.graphs.reductions_are_graphs.Goals as goal

pub returns : goal.returns
returns c = λ mode width net d g wide facts. reduction_is_graph mode width net d g wide facts
