use Rattle.std.proofs.Common.{subst}
use Rattle.lw_net.proofs.Rise.{in_order}
use Rattle.lw_net.specs.Networks.{IsNetwork}
use Rattle.lw_net.proofs.network.Network.nodes.Goals as goal

pub returns-clause-in_order : goal.returns-clause-in_order
returns-clause-in_order c = in_order c.args.self.now (subst IsNetwork c.self.view_is c.self.invariant)
