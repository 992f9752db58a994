use Rattle.std.proofs.Common.{◌≤◌, reverse}
use Rattle.lw_curves.specs.CurveTables.{IsTable}
use Rattle.lw_curves.proofs.curve_table.push_rows.Given as goal

abbrev pub invariant-loop-class : goal.invariant-loop-class
invariant-loop-class l = record {
  low : l.class ≤ l.classes;
  table : IsTable l.fronts.held l.classes l.class (reverse l.points.items) (reverse l.ways.items) (reverse l.lefts.items);
}

abbrev pub decreases-loop-class : goal.decreases-loop-class
decreases-loop-class l = l.class
