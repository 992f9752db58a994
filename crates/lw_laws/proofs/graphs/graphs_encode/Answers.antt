-- By the lemma.
use Rattle.lw_laws.proofs.GraphEncodes.{graph_encodes}
use Rattle.lw_laws.proofs.graphs.graphs_encode.Goals as goal

pub returns : goal.returns
returns c = graph_encodes
