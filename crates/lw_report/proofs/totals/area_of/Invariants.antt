use Rattle.std.proofs.Common.{◌≡◌, ◌*◌, ◌≤◌, take}
use Rattle.std.specs.List.{sum_by}
use Rattle.lw_netlist.specs.Filling.{one_step}
use Rattle.lw_report.specs.Timings.{gate_area}
use Rattle.lw_report.proofs.totals.area_of.Given as goal

abbrev pub invariant-loop-gate : goal.invariant-loop-gate
invariant-loop-gate l = record {
  sum : l.area ≡ sum_by (gate_area l.lib) (take l.gate-index l.gates);
  low : l.area ≤ l.gate-index * one_step;
}
