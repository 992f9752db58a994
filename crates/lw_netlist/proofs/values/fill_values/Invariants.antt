use Rattle.std.proofs.Common.{◌≡◌, ◌<◌, ℕ, false, slice_index_or, length}
use Rattle.lw_netlist.specs.Filling.{gate_value}
use Rattle.lw_netlist.proofs.Filling.{IsFilled}
use Rattle.lw_netlist.proofs.values.fill_values.Given as goal

abbrev pub invariant-loop-j : goal.invariant-loop-j
invariant-loop-j l = record {
  inputs : (i : ℕ) → i < l.first → slice_index_or l.nets i false ≡ slice_index_or l.initial.nets i false;
  filled : IsFilled false (gate_value l.lib) l.gates l.first l.j l.nets;
  length : length l.nets ≡ length l.initial.nets;
}
