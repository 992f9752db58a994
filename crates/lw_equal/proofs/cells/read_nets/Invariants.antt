use Rattle.std.proofs.Common.{◌≡◌, length, take}
use Rattle.lw_equal.specs.Cells.{literals_at}
use Rattle.lw_equal.proofs.cells.read_nets.Given as goal

abbrev pub invariant-loop-k : goal.invariant-loop-k
invariant-loop-k l = record {
  front : take l.k l.found ≡ take l.k (literals_at l.literals l.pins);
  length : length l.found ≡ length l.initial.found;
}
