use Rattle.std.proofs.Common.{◌≡◌, ◌+◌, length}
use Rattle.lw_net.specs.Plain.{plain}
use Rattle.lw_sweep.specs.Sweeps.{IsExtended}
use Rattle.lw_joint.specs.Joint.{HaveNetValues}
use Rattle.lw_joint.proofs.nets.net_literals.Given as goal

abbrev pub invariant-nodes : goal.invariant-nodes
invariant-nodes l = record {
  grown : IsExtended l.fn.sweep l.sweep;
  size : length l.literals.items ≡ l.net.inputs + l.node-index;
  have : HaveNetValues l.sweep (plain l.net) l.inputs l.literals.items;
}
