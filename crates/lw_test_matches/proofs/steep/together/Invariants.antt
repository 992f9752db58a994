use Rattle.std.proofs.Common.{◌≡◌, take}
use Rattle.lw_test_matches.specs.Steep.{joined, total}
use Rattle.lw_test_matches.proofs.steep.together.Given as goal

abbrev pub invariant-loop-pin : goal.invariant-loop-pin
invariant-loop-pin l = l.total ≡ joined 0 (total (take l.pin-index l.pins))
