-- By the lemma.
use Rattle.lw_laws.proofs.RoundLaws.{lowered_sound}
use Rattle.lw_laws.proofs.covers.lowered_labels_are_sound.Goals as goal

pub returns : goal.returns
returns c = lowered_sound
