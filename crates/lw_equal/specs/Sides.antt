-- The sides of a comparison: their ports, the values of their nets, and where they are compared.
use Rattle.std.specs.Prelude.{ℕ, ◌<◌, ◌≤◌, ◌≡◌, Bool, false, ⊤, Some, List, [], ◌∷◌, length, map, slice_get}
use Rattle.std.specs.Prelude.{slice_index_or}
use Rattle.std.specs.List.{IsDistinct}
use Rattle.std.specs.Str.{bytes_eq}
use Rattle.lw_frame.specs.Frames.{Fits, control_among}
use Rattle.lw_genlib.specs.Tables.{truth_of_cells}
use Rattle.lw_laws.specs.Headline.{Port}
use Rattle.lw_laws.specs.Netlists.{AreNetlistValues}
use Rattle.lw_laws.specs.Networks.{AreValues}
use Rattle.lw_net.specs.Networks as rows
use Rattle.lw_netlist.specs.Netlists as cells
use Rattle.lw_netlist.specs.Plain.{IsOver}
use Rattle.lw_pool.specs.declared.latch.Latch.{Latch}
use Rattle.lw_equal.specs.declared.point.Kind.{Kind}
use Rattle.lw_equal.specs.declared.point.Kind.TheVariants.{Output, Data, Control}
use Rattle.lw_equal.specs.declared.point.Point.{Point}
use Rattle.lw_equal.specs.declared.side.Logic.{Logic}
use Rattle.lw_equal.specs.declared.side.Logic.TheVariants.{Rows, Cells}
use Rattle.lw_equal.specs.declared.side.Side.{Side}

-- What a side computes.

-- the names of the inputs
abbrev pub inputs_of : Logic → List (List ℕ)
inputs_of (Rows net) = rows.input_names net.now
inputs_of (Cells n lib) = (cells.mapped_ports n.now).inputs

abbrev pub input_count : Logic → ℕ
input_count (Rows net) = net.now.inputs
input_count (Cells n lib) = n.now.inputs

-- the roots: the outputs, and then what the latches read
abbrev pub roots_of : Logic → List Port
roots_of (Rows net) = (rows.ports_of net.now).outputs
roots_of (Cells n lib) = (cells.mapped_ports n.now).outputs

abbrev pub net_count : Logic → ℕ
net_count (Rows net) = length net.now.names
net_count (Cells n lib) = length n.now.names

-- the values of the nets, where input i has the value x i
abbrev pub AreValuesOf : Logic → (ℕ → Bool) → List Bool → Type 0
AreValuesOf (Rows net) x values = AreValues (rows.plain net.now) x values
AreValuesOf (Cells n lib) x values = AreNetlistValues (truth_of_cells lib.now) (cells.plain n.now) x values

-- each gate is a cell of the library, and there are few enough to be evaluated
abbrev pub CanBeEvaluated : Logic → Type 0
CanBeEvaluated (Rows net) = ⊤
CanBeEvaluated (Cells n lib) = IsOver lib.now n.now × (length n.now.gates ≤ cells.most_gates)

abbrev pub port_name : Port → List ℕ
port_name port = port.name

abbrev pub root_names : Logic → List (List ℕ)
root_names logic = map port_name (roots_of logic)

-- The names of the inputs differ, those of the roots do, and the frame fits them.
pub record IsSide (side : Side) : Type 0 where
  pub inputs : IsDistinct bytes_eq (inputs_of side.logic)
  pub roots : IsDistinct bytes_eq (root_names side.logic)
  pub frame : Fits side.frame.now (inputs_of side.logic) (root_names side.logic)
  pub evaluated : CanBeEvaluated side.logic

-- Values by name.

-- the values of a side's nets, where x gives each name a value
abbrev pub AreValuesUnder : Side → (List ℕ → Bool) → List Bool → Type 0
AreValuesUnder side x values = AreValuesOf side.logic (λ i. x (slice_index_or (inputs_of side.logic) i [])) values

-- Points.

-- The circuit's own output of this name is this net.
pub record IsOutput (side : Side) (name : List ℕ) (net : ℕ) : Type 0 where
  pub place : ℕ
  pub own : place < side.frame.now.outputs
  pub at : slice_get (roots_of side.logic) place ≡ Some (record { name = name; net = net })

-- The latch whose output has this name stores this net.
pub record IsStored (side : Side) (name : List ℕ) (net : ℕ) : Type 0 where
  pub place : ℕ
  pub latch : Latch
  pub at : slice_get side.frame.now.latches place ≡ Some latch
  pub named : latch.output ≡ name
  pub root : ℕ
  pub read : slice_get (roots_of side.logic) root ≡ Some (record { name = latch.input; net = net })

-- The latch whose output has this name is controlled by this net.
pub record IsControl (side : Side) (name : List ℕ) (net : ℕ) : Type 0 where
  pub place : ℕ
  pub latch : Latch
  pub at : slice_get side.frame.now.latches place ≡ Some latch
  pub named : latch.output ≡ name
  pub control : List ℕ
  pub controlled : control_among latch.rest ≡ control ∷ []
  pub root : ℕ
  pub read : slice_get (roots_of side.logic) root ≡ Some (record { name = control; net = net })

abbrev pub IsNetOf : Kind → Side → List ℕ → ℕ → Type 0
IsNetOf Output side name net = IsOutput side name net
IsNetOf Data side name net = IsStored side name net
IsNetOf Control side name net = IsControl side name net

-- the net that a side has at a point
abbrev pub IsNetAt : Side → Point → ℕ → Type 0
IsNetAt side point net = IsNetOf point.kind side point.name net
