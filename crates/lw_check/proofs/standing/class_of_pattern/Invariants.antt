use Rattle.std.proofs.Common.{◌≡◌, length}
use Rattle.lw_check.specs.Standing.{AreStanding}
use Rattle.lw_check.proofs.standing.class_of_pattern.Given as goal
use Rattle.lw_pool.specs.Numbers.{numbers}

abbrev pub invariant-loop-place : goal.invariant-loop-place
invariant-loop-place l = record {
  room : length l.classes ≡ 254;
  standing : AreStanding l.graph (numbers l.pins) l.nodes l.place l.classes;
}
