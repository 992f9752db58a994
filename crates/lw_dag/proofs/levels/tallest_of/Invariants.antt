use Rattle.std.proofs.Common.{◌≡◌, ◌≤◌, max, drop}
use Rattle.lw_dag.specs.Graphs.{tallest}
use Rattle.lw_dag.proofs.levels.tallest_of.Given as goal

abbrev pub invariant-loop-s : goal.invariant-loop-s
invariant-loop-s l = record {
  so_far : max l.most (tallest l.heights (drop l.s-index l.fanins)) ≡ tallest l.heights l.fanins;
  least : 1 ≤ l.most;
}
