-- By the lemma.
use Rattle.lw_laws.proofs.NetlistValues.{some_net_depths}
use Rattle.lw_laws.proofs.mappings.some_net_depths_are_right.Goals as goal

pub returns : goal.returns
returns c = some_net_depths
