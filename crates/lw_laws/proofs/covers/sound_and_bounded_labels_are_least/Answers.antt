-- By the lemma.
use Rattle.lw_laws.proofs.RoundLaws.{bounded_least}
use Rattle.lw_laws.proofs.covers.sound_and_bounded_labels_are_least.Goals as goal

pub returns : goal.returns
returns c = bounded_least
