-- A netlist of least area under deadlines.
use Rattle.std.specs.Prelude.{ℕ, ◌+◌, ◌≤◌, ◌≡◌, List, length, map, Some, Contains, slice_get}
use Rattle.std.specs.List.{range_with_len}
use Rattle.lw_pool.specs.declared.id.ClassId.{ClassId}
use Rattle.lw_fixed.specs.declared.micro.Micro.{Micro}
use Rattle.lw_laws.specs.Covers.{Cover}
use Rattle.lw_laws.specs.Names.{net_names}
use Rattle.lw_laws.specs.Netlists.{Netlist, IsGate, Gate, StandsFor, AreByDepth}
use Rattle.lw_netlist.specs.declared.gate.Port.{Port}
use Rattle.lw_netlist.specs.Netlists.{NetlistParts}
use Rattle.lw_netlist.specs.Plain.{plain, IsOver, port_name}
use Rattle.lw_backtrace.specs.declared.targets.Targets.{Targets}
use Rattle.lw_choices.specs.Tasks.{Task, IsCoverBy, IsLeastAreaBy, area_of}
use Rattle.lw_curves.specs.Points.{most_points}

abbrev pub port_net : Port → ℕ
port_net port = port.net.0

-- the nets of the outputs
abbrev pub output_nets : NetlistParts → List ℕ
output_nets n = map port_net n.outputs

-- the net is an output's, or a pin's of a gate that drives such a net
pub data IsNeeded (outputs : List ℕ) (n : Netlist) : ℕ → Type 0 where
  by_output : {net : ℕ} → Contains outputs net → IsNeeded outputs n net
  by_pin : (j : ℕ) (g : Gate) {net : ℕ} → IsNeeded outputs n (n.inputs + j) → IsGate n j g → Contains g.pins net
      → IsNeeded outputs n net

-- The net stands for a cover of the class that arrives by the time, and has the least area of all such covers.
pub record HasLeastAreaBy (s : Task) (n : Netlist) (c time net : ℕ) : Type 0 where
  pub by : Cover
  pub stands : StandsFor n by net
  pub is_cover : IsCoverBy s c time by
  pub least : IsLeastAreaBy s c time (Some (area_of s by))

-- A netlist of the task's cells with the names of the targets, whose outputs are of least area by their times. Each
-- gate is needed for an output, and gates stand by depth. A gate has the name of the first output at its net, or else
-- the next of n1, n2 and so on that no input and no output has. An output at an input's class is at the net of such an
-- input.
pub record IsTraded (s : Task) (t : Targets) (n : NetlistParts) : Type 0 where
  pub over : IsOver s.cells n
  pub few : length n.gates ≤ most_points
  pub model : n.model ≡ t.model
  pub inputs : n.inputs ≡ length s.graph.leaves
  pub names : n.names ≡ net_names t.inputs t.outputs (output_nets n) (range_with_len n.inputs (length n.gates))
  pub output_names : map port_name n.outputs ≡ t.outputs
  pub least : (k : ℕ) (root : ClassId) (time : Micro) (port : Port) → slice_get t.roots k ≡ Some root
      → slice_get t.times k ≡ Some time → slice_get n.outputs k ≡ Some port
      → HasLeastAreaBy s (plain n) root.0 time.0 port.net.0
  pub tied : (k i : ℕ) (root : ClassId) (port : Port) → slice_get t.roots k ≡ Some root
      → slice_get n.outputs k ≡ Some port → slice_get s.graph.leaves i ≡ Some root.0
      → slice_get s.graph.leaves port.net.0 ≡ Some root.0
  pub needed : (j : ℕ) (g : Gate) → IsGate (plain n) j g → IsNeeded (output_nets n) (plain n) (n.inputs + j)
  pub by_depth : AreByDepth (plain n)
