use Rattle.std.proofs.Common.{◌≡◌, ◌≤◌, ◌*◌, ◌^◌, List, length, take}
use Rattle.std.specs.List.{sum_by}
use Rattle.lw_laws.specs.Graphs.{Pair}
use Rattle.lw_map.proofs.counting.pair_total.Given as goal

abbrev pub invariant-loop-class : goal.invariant-loop-class
invariant-loop-class l = record {
  sum : l.total ≡ sum_by (λ (row : List Pair). length row) (take l.class l.graph.pairs);
  bound : l.total ≤ l.class * 2 ^ 64;
}
