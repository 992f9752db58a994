use Rattle.std.proofs.Common.{◌≡◌, ◌*◌, ◌<◌, ℕ, length}
use Rattle.lw_laws.specs.Graphs.{HoldsPair}
use Rattle.lw_lut.specs.Reaches.{IsSeen}
use Rattle.lw_lut.proofs.reach.reaches.Given as goal

abbrev pub invariant-loop-class : goal.invariant-loop-class
invariant-loop-class l = record {
  one_each : length l.graph.pairs ≡ 2 * length l.reach.items;
  noted : (c x y : ℕ) → c < l.class → HoldsPair l.graph c x y → IsSeen l.reach.items c x y;
}
