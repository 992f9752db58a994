use Rattle.lw_trade.proofs.Lasting.{pins_before}
use Rattle.lw_trade.proofs.laws.pins_come_before.Goals as goal

pub returns : goal.returns
returns c = pins_before
