-- By the lemma.
use Rattle.lw_laws.proofs.LabelLaws.{class_height}
use Rattle.lw_laws.proofs.covers.labelled_classes_have_heights.Goals as goal

pub returns : goal.returns
returns c = class_height
