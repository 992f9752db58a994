use Rattle.std.proofs.Common.{sym, subst}
use Rattle.lw_net.specs.Closing.{IsClosed}
use Rattle.lw_net.specs.Numbers.{draft_in}
use Rattle.lw_net.specs.Plain.{HasRisingDepths}
use Rattle.lw_net.proofs.network.Network.of_written.Goals as goal

pub returns-clause-closed : goal.returns-clause-closed
returns-clause-closed c = subst (IsClosed (draft_in c.args.w)) (sym c.in_ok-network.ensures) c.in_ok-put_in_order.ensures.order.closed

pub returns-clause-depths : goal.returns-clause-depths
returns-clause-depths c = subst HasRisingDepths (sym c.in_ok-network.ensures) c.in_ok-put_in_order.ensures.order.depths
