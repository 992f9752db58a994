use Rattle.std.proofs.Common.{◌≡◌, ◌+◌, ◌++◌, length}
use Rattle.lw_lut.specs.Nets.{table_classes}
use Rattle.lw_lut.proofs.PlacedNames.{HasPlacesTo}
use Rattle.lw_lut.proofs.placing.places_of.Given as goal
use Rattle.lw_pool.specs.Numbers.{numbers}

abbrev pub invariant-loop-input : goal.invariant-loop-input
invariant-loop-input l = record {
  one_each : length l.places.items ≡ l.classes;
  placed : HasPlacesTo (numbers l.inputs ++ table_classes l.tables) l.places.items l.input;
}

abbrev pub invariant-loop-k : goal.invariant-loop-k
invariant-loop-k l = record {
  one_each : length l.places.items ≡ l.classes;
  placed : HasPlacesTo (numbers l.inputs ++ table_classes l.tables) l.places.items (length l.inputs + l.k);
}
