-- By the lemma.
use Rattle.lw_check.proofs.Judging.{accepted_is_mapping}
use Rattle.lw_check.proofs.laws.yes_is_a_mapping.Goals as goal

pub returns : goal.returns
returns c = accepted_is_mapping
