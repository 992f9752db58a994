-- By the lemma.
use Rattle.lw_laws.proofs.NetValues.{some_depths}
use Rattle.lw_laws.proofs.networks.some_depths_are_right.Goals as goal

pub returns : goal.returns
returns c = some_depths
