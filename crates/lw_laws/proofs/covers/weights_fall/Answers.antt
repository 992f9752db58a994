-- By the lemma.
use Rattle.lw_laws.proofs.Rounds.{total_weight_falls}
use Rattle.lw_laws.proofs.covers.weights_fall.Goals as goal

pub returns : goal.returns
returns c = total_weight_falls
