-- By the lemma.
use Rattle.lw_laws.proofs.NetlistValues.{net_depths_once}
use Rattle.lw_laws.proofs.mappings.net_depths_are_one.Goals as goal

pub returns : goal.returns
returns c = net_depths_once
