use Rattle.std.proofs.Common.{◌≡◌, ◌+◌, length}
use Rattle.lw_genlib.specs.Tables.{truth_of_cells}
use Rattle.lw_netlist.specs.Netlists.{plain}
use Rattle.lw_sweep.specs.Sweeps.{IsExtended}
use Rattle.lw_equal.specs.Cells.{HaveNetlistValues}
use Rattle.lw_equal.proofs.cells.netlist_literals.Given as goal

abbrev pub invariant-gates : goal.invariant-gates
invariant-gates l = record {
  grown : IsExtended l.fn.sweep l.sweep;
  size : length l.literals.items ≡ l.netlist.inputs + l.gate-index;
  have : HaveNetlistValues l.sweep (truth_of_cells l.lib) (plain l.netlist) l.inputs l.literals.items;
}
