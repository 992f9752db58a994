-- By the lemma.
use Rattle.lw_laws.proofs.GraphEncodes.{graph_pairs_once}
use Rattle.lw_laws.proofs.graphs.graphs_hold_pairs_once.Goals as goal

pub returns : goal.returns
returns c = graph_pairs_once
