use Rattle.std.proofs.Common.{sym, subst}
use Rattle.lw_net.specs.Networks.{IsNetwork}
use Rattle.lw_net.proofs.network.Network.of_ordered.Goals as goal

pub invariant_of-result : goal.invariant_of-result
invariant_of-result c = subst IsNetwork (sym c.in_ok-parts.ensures) c.requires.kept
