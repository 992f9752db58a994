use Rattle.std.proofs.Common.{◌≡◌, ◌≤◌, ◌*◌, take}
use Rattle.lw_netlist.specs.Filling.{one_step}
use Rattle.lw_look.specs.Areas.{area_of}
use Rattle.lw_look.proofs.areas.sum_of.Given as goal

abbrev pub invariant-loop-gate : goal.invariant-loop-gate
invariant-loop-gate l = record {
  area : l.area ≡ area_of l.lib (take l.gate-index l.gates);
  low : l.area ≤ l.gate-index * one_step;
}
