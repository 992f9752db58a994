-- By the lemma.
use Rattle.lw_laws.proofs.ClassLaws.{graphs_once}
use Rattle.lw_laws.proofs.graphs.graphs_are_one.Goals as goal

pub returns : goal.returns
returns c = graphs_once
