-- By the lemma.
use Rattle.lw_laws.proofs.InputLabels.{input_label}
use Rattle.lw_laws.proofs.covers.input_labels_are_starts.Goals as goal

pub returns : goal.returns
returns c = input_label
