-- By the lemmas.
use Rattle.lw_label.proofs.CellLaws.{timing_up}
use Rattle.lw_label.proofs.laws.library_times_are_low.Goals as goal

pub returns : goal.returns
returns c = λ cells starts lib small. timing_up cells lib starts small
