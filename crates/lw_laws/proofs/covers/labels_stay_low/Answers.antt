-- By the lemma.
use Rattle.lw_laws.proofs.LabelLaws.{labels_stay_low}
use Rattle.lw_laws.proofs.covers.labels_stay_low.Goals as goal

pub returns : goal.returns
returns c = labels_stay_low
