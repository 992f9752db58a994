use Rattle.std.proofs.Common.{◌≡◌, ◌+◌, min, take}
use Rattle.lw_choices.specs.Areas.{most_area, total}
use Rattle.lw_choices.proofs.area.together.Given as goal

abbrev pub invariant-loop-pin : goal.invariant-loop-pin
invariant-loop-pin l = l.total ≡ min most_area (l.area + total (take l.pin-index l.pins))
