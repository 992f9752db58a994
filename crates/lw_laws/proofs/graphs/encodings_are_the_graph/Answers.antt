-- By the lemma.
use Rattle.lw_laws.proofs.ClassLaws.{encoding_is_graph}
use Rattle.lw_laws.proofs.graphs.encodings_are_the_graph.Goals as goal

pub returns : goal.returns
returns c = encoding_is_graph
