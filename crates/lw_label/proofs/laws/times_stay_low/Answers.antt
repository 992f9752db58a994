-- By the lemmas.
use Rattle.lw_label.proofs.Low.{labels_low, labels_below_cap}
use Rattle.lw_label.proofs.laws.times_stay_low.Goals as goal

pub returns-clause-low : goal.returns-clause-low
returns-clause-low c = labels_low

pub returns-clause-cap : goal.returns-clause-cap
returns-clause-cap c = labels_below_cap
