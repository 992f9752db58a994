-- By the lemma.
use Rattle.lw_joined.proofs.Pairs.{arrive_together}
use Rattle.lw_joined.proofs.laws.linked_forms_arrive_together.Goals as goal

pub returns : goal.returns
returns c = arrive_together
