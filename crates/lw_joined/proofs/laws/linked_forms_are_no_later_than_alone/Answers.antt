-- By the lemma.
use Rattle.lw_joined.proofs.NoLater.{no_later_than_alone}
use Rattle.lw_joined.proofs.laws.linked_forms_are_no_later_than_alone.Goals as goal

pub returns : goal.returns
returns c = no_later_than_alone
