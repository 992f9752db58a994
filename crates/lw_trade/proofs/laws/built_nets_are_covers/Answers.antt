use Rattle.lw_trade.proofs.Built.{built_nets}
use Rattle.lw_trade.proofs.laws.built_nets_are_covers.Goals as goal

pub returns : goal.returns
returns c = built_nets
