-- By the lemma.
use Rattle.lw_laws.proofs.NetlistOnce.{least_time_once}
use Rattle.lw_laws.proofs.mappings.least_times_are_one.Goals as goal

pub returns : goal.returns
returns c = least_time_once
