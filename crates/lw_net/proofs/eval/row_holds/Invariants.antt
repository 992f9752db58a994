use Rattle.std.proofs.Common.{◌≡◌, drop, map}
use Rattle.lw_laws.specs.Networks.{row_value}
use Rattle.lw_net.specs.Signs.{asked}
use Rattle.lw_net.proofs.eval.row_holds.Given as goal
use Rattle.lw_pool.specs.Numbers.{values_at}

abbrev pub invariant-loop-i : goal.invariant-loop-i
invariant-loop-i l =
    row_value (drop l.i (values_at l.nets l.fanins)) (drop l.i (map asked l.row)) ≡ row_value (values_at l.nets l.fanins) (map asked l.row)
