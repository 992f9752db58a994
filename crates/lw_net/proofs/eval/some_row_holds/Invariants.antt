use Rattle.std.proofs.Common.{◌≡◌, drop, map}
use Rattle.std.specs.List.{list_any}
use Rattle.lw_laws.specs.Networks.{row_value}
use Rattle.lw_net.specs.Signs.{asked}
use Rattle.lw_net.proofs.eval.some_row_holds.Given as goal
use Rattle.lw_pool.specs.Numbers.{values_at}

abbrev pub invariant-loop-row : goal.invariant-loop-row
invariant-loop-row l =
    list_any (row_value (values_at l.nets l.fanins)) (map (map asked) (drop l.row-index l.rows)) ≡ list_any (row_value (values_at l.nets l.fanins)) (map (map asked) l.rows)
