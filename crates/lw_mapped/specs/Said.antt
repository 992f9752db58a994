-- What several lines say together.
use Rattle.std.specs.Prelude.{ℕ, ◌==◌, List, [], ◌∷◌, Option, Some, None, if◌then◌else◌}
use Rattle.std.specs.Str.{bytes_eq}
use Rattle.lw_fixed.specs.declared.micro.Micro.{Micro}
use Rattle.lw_pool.specs.declared.id.ClassId.{ClassId}
use Rattle.lw_pool.specs.declared.latch.Latch.{Latch}
use Rattle.lw_frame.specs.Starts.{Arrival}
use Rattle.lw_named_netlist.specs.declared.draft.DraftGate.{DraftGate}
use Rattle.lw_named_netlist.specs.declared.draft.Wire.{Wire}
use Rattle.lw_mapped.specs.declared.saying.Saying.{Saying}
use Rattle.lw_mapped.specs.declared.saying.Saying.TheVariants as saying

-- a label of a class
pub record Labelled : Type 0 where
  pub class : ℕ
  pub label : Micro

-- the class of a net
pub record Classed : Type 0 where
  pub name : List ℕ
  pub class : ClassId

abbrev pub models_in : Saying → List (List ℕ)
models_in (saying.Model name) = name ∷ []
models_in other = []

abbrev pub inputs_in : Saying → List (List ℕ)
inputs_in (saying.Inputs names) = names
inputs_in other = []

abbrev pub outputs_in : Saying → List (List ℕ)
outputs_in (saying.Outputs names) = names
outputs_in other = []

abbrev pub gates_in : Saying → List DraftGate
gates_in (saying.Gate gate) = gate ∷ []
gates_in other = []

abbrev pub wires_in : Saying → List Wire
wires_in (saying.Wire wire) = wire ∷ []
wires_in other = []

abbrev pub latches_in : Saying → List Latch
latches_in (saying.Latch latch) = latch ∷ []
latches_in other = []

abbrev pub arrivals_in : Saying → List Arrival
arrivals_in (saying.Arrival name start) = record { named = Some name; start = start } ∷ []
arrivals_in (saying.DefaultArrival start) = record { named = None; start = start } ∷ []
arrivals_in other = []

abbrev pub labels_in : Saying → List Labelled
labels_in (saying.Label class label) = record { class = class.0; label = label } ∷ []
labels_in other = []

abbrev pub nets_in : Saying → List Classed
nets_in (saying.Net name class) = record { name = name; class = class } ∷ []
nets_in other = []

-- the label of a class, where it has one
abbrev pub label_among : List Labelled → ℕ → Option Micro
label_among [] class = None
label_among (l ∷ labels) class = if l.class == class then Some l.label else label_among labels class

-- the class of a net, where it has one
abbrev pub class_among : List Classed → List ℕ → Option ClassId
class_among [] name = None
class_among (n ∷ nets) name = if bytes_eq n.name name then Some n.class else class_among nets name
