use Rattle.lw_exists.proofs.SomeGraph.{some_graph}
use Rattle.lw_exists.proofs.laws.graphs_exist.Goals as goal

pub returns : goal.returns
returns c = some_graph
