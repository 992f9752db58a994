-- What is checked of a netlist that comes with a certificate.
use Rattle.std.specs.Prelude.{ℕ, suc, ◌<◌, ◌≤◌, ◌≡◌, ◌≢◌, ◌++◌, List, [], ◌∷◌, length, map, find, nat_le, Option, Some}
use Rattle.std.specs.Prelude.{None, option_map, slice_get, slice_index_or}
use Rattle.std.specs.List.{filter_map}
use Rattle.lw_fixed.specs.declared.micro.Micro.{Micro}
use Rattle.lw_pool.specs.declared.id.ClassId.{ClassId}
use Rattle.lw_pool.specs.declared.id.NetId.{NetId}
use Rattle.lw_pool.specs.declared.latch.Frame.{Frame}
use Rattle.lw_laws.specs.Costs.{Cost}
use Rattle.lw_laws.specs.Covers.{Pattern, Timing}
use Rattle.lw_laws.specs.Graphs.{Graph}
use Rattle.lw_laws.specs.Mapped.{IsPotentialOf}
use Rattle.lw_laws.specs.Matches.{IsMatchAt}
use Rattle.lw_laws.specs.Netlists.{AreArrivals}
use Rattle.lw_laws.specs.Rounds.{labels_in}
use Rattle.lw_net.specs.Networks.{NetworkParts, input_names, output_names}
use Rattle.lw_genlib.specs.Cells.{CellParts}
use Rattle.lw_genlib.specs.Tables.{millionths, timing_of}
use Rattle.lw_label.specs.Delays.{time_cost}
use Rattle.lw_netlist.specs.declared.gate.Gate.{Gate}
use Rattle.lw_netlist.specs.declared.gate.Port.{Port}
use Rattle.lw_netlist.specs.Plain.{plain, mapped_ports, port_name}
use Rattle.lw_mapped.specs.declared.certificate.Certificate.{Certificate}
use Rattle.lw_mapped.specs.declared.closing.Mapped.{Mapped}
use Rattle.lw_mapped.specs.Texts.{net_name}
use Rattle.lw_check.specs.Failing.{Gives, IsFirstFailing}

-- The claim that a netlist with its frame and certificate is a fastest mapping: of a network with its frame and the
-- starts of its inputs, by cells and their patterns, over a graph in which the outputs have these classes.
pub record Claim : Type 0 where
  pub net : NetworkParts
  pub frame : Frame
  pub starts : List Micro
  pub cells : List CellParts
  pub graph : Graph
  pub pats : List Pattern
  pub roots : List ClassId
  pub mapped : Mapped

abbrev pub timing_in : Claim → Timing
timing_in k = timing_of k.cells k.starts

-- what covers cost: the time from the starts on
abbrev pub cost_in : Claim → Cost
cost_in k = time_cost k.cells k.starts

abbrev pub class_number : ClassId → ℕ
class_number class = class.0

-- Ports.

-- The netlist has the network's inputs and outputs, by name and in order, and its frame.
pub record HasSamePorts (k : Claim) : Type 0 where
  pub inputs : (mapped_ports k.mapped.netlist).inputs ≡ input_names k.net
  pub outputs : map port_name k.mapped.netlist.outputs ≡ output_names k.net
  pub frame : k.mapped.frame ≡ k.frame

-- Class numbers.

-- the classes that have a label, from a class on
abbrev pub labelled_from : ℕ → List (Option Micro) → List ℕ
labelled_from class [] = []
labelled_from class (None ∷ labels) = labelled_from (suc class) labels
labelled_from class (Some label ∷ labels) = class ∷ labelled_from (suc class) labels

-- the class numbers of a certificate: those of the labels, and then those of the gates
abbrev pub class_numbers : Certificate → List ℕ
class_numbers cert = labelled_from 0 cert.labels ++ filter_map (option_map class_number) cert.nets

-- the first class number of the certificate that is not below the number of classes
abbrev pub first_unknown_class : Claim → Option ℕ
first_unknown_class k = find (nat_le (length k.graph.pairs)) (class_numbers k.mapped.cert)

abbrev pub HasKnownClasses : Claim → Type 0
HasKnownClasses k = first_unknown_class k ≡ None

-- Gates.

-- the class of each net: those of the inputs, and then those that the certificate gives the gates
abbrev pub net_classes : Graph → Certificate → List (Option ℕ)
net_classes g cert = map Some g.leaves ++ map (option_map class_number) cert.nets

-- the class of a net, where it has one
abbrev pub class_of_net : Claim → NetId → Option ℕ
class_of_net k net = slice_index_or (net_classes k.graph k.mapped.cert) net.0 None

-- A pattern of the gate's cell stands at the class of its net with the classes of its pins.
pub record IsMatchGate (k : Claim) (gate : Gate) : Type 0 where
  pub class : ℕ
  pub has_class : class_of_net k gate.out ≡ Some class
  pub pins : List ℕ
  pub have_classes : map (class_of_net k) gate.pins ≡ map Some pins
  pub stands : IsMatchAt k.graph (cost_in k).pin_counts k.pats class gate.cell.0 pins

abbrev pub IsMatchAtPlace : Claim → ℕ → Type 0
IsMatchAtPlace k j = (gate : Gate) → slice_get k.mapped.netlist.gates j ≡ Some gate → IsMatchGate k gate

abbrev pub AreMatches : Claim → Type 0
AreMatches k = (j : ℕ) → IsMatchAtPlace k j

-- the first gate that is no match, by the name of its net
pub record IsFirstNoMatch (k : Claim) (name : List ℕ) : Type 0 where
  pub place : ℕ
  pub gate : Gate
  pub at : slice_get k.mapped.netlist.gates place ≡ Some gate
  pub named : net_name k.mapped.netlist.names gate.out ≡ name
  pub no_match : IsMatchGate k gate → ⊥
  pub before : (j : ℕ) → j < place → IsMatchAtPlace k j

-- Labels.

-- the label of a class, and none past the last
abbrev pub label_of_class : Claim → ℕ → Option Micro
label_of_class k class = slice_index_or k.mapped.cert.labels class None

-- the labels as plain numbers
abbrev pub plain_labels : Certificate → List (Option ℕ)
plain_labels cert = map (option_map millionths) cert.labels

-- No input's class and no class of a match with labelled pins lacks a label or has one above the cost.
abbrev pub HasPotential : Claim → Type 0
HasPotential k = IsPotentialOf k.graph k.pats (cost_in k) (plain_labels k.mapped.cert)

-- what an input of the class costs, or a match at it whose pins are all labelled
abbrev pub ClassGives : Claim → ℕ → ℕ → Type 0
ClassGives k class d = Gives k.graph (cost_in k) k.pats (labels_in (plain_labels k.mapped.cert)) class d

-- the first class whose label is no bound, with its label, and the least that an input of it or a match at it costs
pub record IsFirstUnbounded (k : Claim) (class : ClassId) (label : Option Micro) (value : Micro) : Type 0 where
  pub first : IsFirstFailing k.graph (cost_in k) k.pats (labels_in (plain_labels k.mapped.cert)) class.0
  pub label_is : label_of_class k class.0 ≡ label
  pub gives : ClassGives k class.0 value.0
  pub least : (d : ℕ) → ClassGives k class.0 d → value.0 ≤ d

-- Roots.

-- the net of output j is at its class
abbrev pub IsAtRoot : Claim → ℕ → Type 0
IsAtRoot k j =
    (port : Port) (root : ClassId) → slice_get k.mapped.netlist.outputs j ≡ Some port → slice_get k.roots j ≡ Some root
    → class_of_net k port.net ≡ Some root.0

abbrev pub AreAtRoots : Claim → Type 0
AreAtRoots k = (j : ℕ) → IsAtRoot k j

-- the first output whose net is at another class: its name, that class, and its own
pub record IsFirstOffRoot (k : Claim) (name : List ℕ) (found root : ClassId) : Type 0 where
  pub place : ℕ
  pub port : Port
  pub at : slice_get k.mapped.netlist.outputs place ≡ Some port
  pub root_at : slice_get k.roots place ≡ Some root
  pub named : port.name ≡ name
  pub found_at : class_of_net k port.net ≡ Some found.0
  pub differs : found ≢ root
  pub before : (j : ℕ) → j < place → IsAtRoot k j

-- Arrivals.

-- the net arrives at d
pub record Arrives (k : Claim) (net : NetId) (d : ℕ) : Type 0 where
  pub arrivals : List ℕ
  pub are : AreArrivals (timing_in k) (plain k.mapped.netlist) arrivals
  pub at : slice_get arrivals net.0 ≡ Some d

-- The output arrives at the label of the class of its net.
pub record IsOnTime (k : Claim) (port : Port) : Type 0 where
  pub class : ℕ
  pub has_class : class_of_net k port.net ≡ Some class
  pub label : Micro
  pub has_label : label_of_class k class ≡ Some label
  pub arrives : Arrives k port.net label.0

abbrev pub IsOnTimeAt : Claim → ℕ → Type 0
IsOnTimeAt k j = (port : Port) → slice_get k.mapped.netlist.outputs j ≡ Some port → IsOnTime k port

abbrev pub AreOnTime : Claim → Type 0
AreOnTime k = (j : ℕ) → IsOnTimeAt k j

-- the first output that arrives at another time than the label of its class: its name, that time, and the label
pub record IsFirstOffTime (k : Claim) (name : List ℕ) (arrival label : Micro) : Type 0 where
  pub place : ℕ
  pub port : Port
  pub at : slice_get k.mapped.netlist.outputs place ≡ Some port
  pub named : port.name ≡ name
  pub class : ℕ
  pub has_class : class_of_net k port.net ≡ Some class
  pub has_label : label_of_class k class ≡ Some label
  pub arrives : Arrives k port.net arrival.0
  pub differs : arrival ≢ label
  pub before : (j : ℕ) → j < place → IsOnTimeAt k j
