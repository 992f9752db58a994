use Rattle.std.proofs.Common.{◌≡◌}
use Rattle.lw_big.specs.Generated.{signal_names}
use Rattle.lw_big.proofs.naming.signal_names.Given as goal

abbrev pub invariant-loop-k : goal.invariant-loop-k
invariant-loop-k l = l.names.items ≡ signal_names l.first l.k
