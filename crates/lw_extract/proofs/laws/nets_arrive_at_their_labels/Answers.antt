-- By the lemma.
use Rattle.lw_extract.proofs.Arriving.{arrive_at_labels}
use Rattle.lw_extract.proofs.laws.nets_arrive_at_their_labels.Goals as goal

pub returns : goal.returns
returns c = arrive_at_labels
