use Rattle.std.proofs.Common.{◌≡◌, ◌+◌, ℕ, List, Some, length, map, slice_get}
use Rattle.lw_genlib.specs.Cells.{CellParts}
use Rattle.lw_genlib.specs.Tables.{delays_of_cells, millionths}
use Rattle.lw_laws.specs.Covers.{delays_of}
use Rattle.lw_choices.specs.Choices.{Choice}
use Rattle.lw_choices.specs.Choices.Part.{gate}
use Rattle.lw_choices.specs.PinGroups.{AreGroups, AreUsesTo}
use Rattle.lw_choices.proofs.pin_groups.add_pins.Given as goal
use Rattle.lw_pool.specs.Numbers.{numbers}

abbrev pub invariant-loop-pin : goal.invariant-loop-pin
invariant-loop-pin l = record {
  count : l.pin_groups.links.count ≡ l.initial.pin_groups.links.count;
  are : AreGroups l.pin_groups;
  firsts : l.pin_groups.firsts.items ≡ l.initial.pin_groups.firsts.items;
  longer : length l.pin_groups.members.classes ≡ length l.initial.pin_groups.members.classes + l.pin;
  pin_groups : (cells : List CellParts) (xs : List Choice) (c cell : ℕ) → slice_get xs l.choice ≡ Some (record { class = c; part = gate cell (numbers l.pins) }) → delays_of (delays_of_cells cells) cell ≡ map millionths l.delays → AreUsesTo cells xs l.choice 0 l.initial.pin_groups → AreUsesTo cells xs l.choice l.pin l.pin_groups;
}
