-- By the lemma.
use Rattle.lw_laws.proofs.Together.{has_truth}
use Rattle.lw_laws.proofs.graphs.classes_have_numbered_truth.Goals as goal

pub returns : goal.returns
returns c = has_truth
