use Rattle.std.proofs.Common.{◌≡◌, length, All}
use Rattle.lw_test_matches.specs.Drawing.{IsInRange}
use Rattle.lw_test_matches.proofs.drawing.marks_drawn.Given as goal

abbrev pub invariant-loop-class : goal.invariant-loop-class
invariant-loop-class l = (length l.marks.items ≡ l._class) × All IsInRange l.marks.items
