-- By the lemma.
use Rattle.lw_check.proofs.Accepting.{mapping_accepted}
use Rattle.lw_check.proofs.laws.mappings_are_accepted.Goals as goal

pub returns : goal.returns
returns c = mapping_accepted
