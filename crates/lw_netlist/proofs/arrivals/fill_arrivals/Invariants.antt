use Rattle.std.proofs.Common.{◌≡◌, ◌+◌, ◌*◌, ◌<◌, ◌≤◌, ℕ, length}
use Rattle.lw_netlist.specs.Filling.{arrival_at, one_step}
use Rattle.lw_netlist.proofs.Filling.{IsFilled}
use Rattle.lw_netlist.proofs.Latest.{gate_time}
use Rattle.lw_netlist.proofs.arrivals.fill_arrivals.Given as goal

abbrev pub invariant-loop-j : goal.invariant-loop-j
invariant-loop-j l = record {
  inputs : (i : ℕ) → i < l.first → arrival_at l.nets i ≡ arrival_at l.initial.nets i;
  filled : IsFilled (record { 0 = 0 }) (gate_time l.lib) l.gates l.first l.j l.nets;
  early : (i : ℕ) → i < l.first + l.j → arrival_at l.nets i ≤ (l.j + 1) * one_step;
  length : length l.nets ≡ l.first + length l.gates;
}
