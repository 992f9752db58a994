-- By the lemma.
use Rattle.lw_laws.proofs.NetValues.{depths_once}
use Rattle.lw_laws.proofs.networks.depths_are_one.Goals as goal

pub returns : goal.returns
returns c = depths_once
