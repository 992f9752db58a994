-- By the lemma.
use Rattle.lw_joined.proofs.Alone.{alone}
use Rattle.lw_joined.proofs.laws.unlinked_networks_are_themselves.Goals as goal

pub returns : goal.returns
returns c = alone
