use Rattle.std.proofs.Common.{◌≤◌, Some, drop, length, map}
use Rattle.lw_genlib.specs.Tables.{millionths}
use Rattle.lw_curves.specs.Pricing.{IsBestOfPins}
use Rattle.lw_curves.proofs.choice_area.area_of_pins.Given as goal
use Rattle.lw_pool.specs.Numbers.{numbers}

abbrev pub invariant-loop-pin : goal.invariant-loop-pin
invariant-loop-pin l = record {
  within : l.pin ≤ length l.pins;
  best : IsBestOfPins l.fronts.spots (drop l.pin (map millionths l.delays)) (drop l.pin (numbers l.pins)) l.time (Some l.area);
}

abbrev pub decreases-loop-pin : goal.decreases-loop-pin
decreases-loop-pin l = l.pin
