-- By the lemma.
use Rattle.lw_laws.proofs.RoundLaws.{first_sound}
use Rattle.lw_laws.proofs.covers.first_labels_are_sound.Goals as goal

pub returns : goal.returns
returns c = first_sound
