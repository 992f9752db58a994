-- The netlist that a network is mapped to.
use Rattle.std.specs.Prelude.{ℕ, ◌+◌, ◌<◌, ◌≡◌, List, length, map, Option, Some, slice_get}
use Rattle.std.specs.List.{AllZip, AllByRecursion}
use Rattle.lw_laws.specs.Modes.{Mode}
use Rattle.lw_laws.specs.Networks.{Network}
use Rattle.lw_laws.specs.Forms.{Form}
use Rattle.lw_laws.specs.Listings.{Listing, listing_of}
use Rattle.lw_laws.specs.Covers.{Timing, Pattern}
use Rattle.lw_laws.specs.Graphs.{Graph}
use Rattle.lw_laws.specs.Classes.{class_in, IsGraphOf}
use Rattle.lw_laws.specs.Matches.{choices_of, IsLeastCover}
use Rattle.lw_laws.specs.Choices.{IsHeight}
use Rattle.lw_laws.specs.Rounds.{labels_in}
use Rattle.lw_laws.specs.Delays.{delay_cost}
use Rattle.lw_laws.specs.Netlists.{Netlist}
use Rattle.lw_laws.specs.Extracts.{AreGateClasses, IsNetOf, IsExtracted}
use Rattle.lw_laws.specs.Mapped.{root_class}
use Rattle.lw_laws.specs.MatchLists.{IsMatchNetlist}
use Rattle.lw_laws.specs.Signals.{sop_at, signals_of}
use Rattle.lw_laws.specs.Names.{AreDifferent, net_names}
use Rattle.lw_laws.specs.Headline.{Port, Ports}
pub use Rattle.lw_laws.specs.Headline.{AreNetNames}

-- each output's net is one of the network's
abbrev pub HasPorts : Network → Ports → Type 0
HasPorts net ports = AllByRecursion (λ p. p.net < net.inputs + length net.nodes) ports.outputs

-- There is a name for each input, the inputs' names differ and the outputs' do, and an output with an input's name is
-- that input's net.
pub record ArePortNames (net : Network) (ports : Ports) : Type 0 where
  pub one_each : length ports.inputs ≡ net.inputs
  pub inputs_differ : AreDifferent ports.inputs
  pub outputs_differ : AreDifferent (map (λ p. p.name) ports.outputs)
  pub tied : (i k : ℕ) (p : Port) → slice_get ports.outputs k ≡ Some p → slice_get ports.inputs i ≡ Some p.name
      → p.net ≡ i

-- the classes of the outputs' sums of products
abbrev pub root_classes : ℕ → Network → Graph → List Port → List ℕ
root_classes width net g outputs = map (λ p. root_class width net g p.net) outputs

-- the classes of the outputs' forms
abbrev pub form_classes : Listing → (ℕ → Form) → Graph → List Port → List ℕ
form_classes o form g outputs = map (λ p. class_in o g (form p.net)) outputs

-- The netlist of the chosen matches: the graph of the listed forms, the least time and the height of each class, the
-- classes that are needed for the outputs, by height and then class, and a gate for each.
pub record IsNetlistOfForms (mode : Mode) (inputs : ℕ) (o : Listing) (form : ℕ → Form) (ports : Ports)
    (pats : List Pattern) (timing : Timing) (cap : ℕ) (n : Netlist) (names : List (List ℕ))
    (mapped : Ports) : Type 0 where
  pub graph : Graph
  pub is_graph : IsGraphOf mode inputs o graph
  pub labels : List (Option ℕ)
  pub least : (c : ℕ) → IsLeastCover graph pats (delay_cost timing cap) c (labels_in labels c)
  pub heights : ℕ → ℕ
  pub height : (c l : ℕ) → labels_in labels c ≡ Some l → IsHeight (choices_of graph (map length timing.delays) pats)
      (delay_cost timing cap) (labels_in labels) c (heights c)
  pub gates : List ℕ
  pub gate_classes : AreGateClasses graph (delay_cost timing cap) pats (labels_in labels) heights
      (form_classes o form graph ports.outputs) gates
  pub extracted : IsExtracted graph (delay_cost timing cap) pats (labels_in labels) heights gates n
  pub input_names : mapped.inputs ≡ ports.inputs
  pub outputs : AllZip
      (λ p q. (p.name ≡ q.name) × IsNetOf graph gates (class_in o graph (form p.net)) q.net) ports.outputs
      mapped.outputs
  pub names_are : names ≡ net_names ports.inputs (map (λ p. p.name) ports.outputs)
      (form_classes o form graph ports.outputs) gates

-- A netlist of matches: over the graph of the listed forms, a gate for each of some classes, which is a match at the
-- class. Each output is at the net of its form's class, and the nets have their names as in the netlist of the chosen
-- matches.
pub record IsMatchNetlistOfForms (mode : Mode) (inputs : ℕ) (o : Listing) (form : ℕ → Form) (ports : Ports)
    (pats : List Pattern) (pin_counts : List ℕ) (n : Netlist) (names : List (List ℕ)) (mapped : Ports) : Type 0 where
  pub graph : Graph
  pub is_graph : IsGraphOf mode inputs o graph
  pub gates : List ℕ
  pub matches : IsMatchNetlist graph pin_counts pats gates n
  pub input_names : mapped.inputs ≡ ports.inputs
  pub outputs : AllZip
      (λ p q. (p.name ≡ q.name) × IsNetOf graph gates (class_in o graph (form p.net)) q.net) ports.outputs
      mapped.outputs
  pub names_are : names ≡ net_names ports.inputs (map (λ p. p.name) ports.outputs)
      (form_classes o form graph ports.outputs) gates

-- a netlist of matches for the sums of products of a network's nets
abbrev pub IsMatchNetlistOf : Mode → ℕ → Network → Ports → List Pattern → List ℕ → Netlist → List (List ℕ) → Ports
    → Type 0
IsMatchNetlistOf mode width net ports pats pin_counts n names mapped =
    IsMatchNetlistOfForms mode net.inputs (listing_of width net)
    (sop_at (signals_of width net)) ports pats pin_counts n names mapped

-- The netlist of the chosen matches for the sums of products of a network's nets: the graph of the network's forms, the
-- least time and the height of each class, the classes that are needed for the outputs, by height and then class, and a
-- gate for each.
pub record IsNetlistOf (mode : Mode) (width : ℕ) (net : Network) (ports : Ports) (pats : List Pattern) (timing : Timing)
    (cap : ℕ) (n : Netlist) (names : List (List ℕ)) (mapped : Ports) : Type 0 where
  pub graph : Graph
  pub is_graph : IsGraphOf mode net.inputs (listing_of width net) graph
  pub labels : List (Option ℕ)
  pub least : (c : ℕ) → IsLeastCover graph pats (delay_cost timing cap) c (labels_in labels c)
  pub heights : ℕ → ℕ
  pub height : (c l : ℕ) → labels_in labels c ≡ Some l → IsHeight (choices_of graph (map length timing.delays) pats)
      (delay_cost timing cap) (labels_in labels) c (heights c)
  pub gates : List ℕ
  pub gate_classes : AreGateClasses graph (delay_cost timing cap) pats (labels_in labels) heights
      (root_classes width net graph ports.outputs) gates
  pub extracted : IsExtracted graph (delay_cost timing cap) pats (labels_in labels) heights gates n
  pub input_names : mapped.inputs ≡ ports.inputs
  pub outputs : AllZip
      (λ p q. (p.name ≡ q.name) × IsNetOf graph gates (root_class width net graph p.net) q.net) ports.outputs
      mapped.outputs
  pub names_are : names ≡ net_names ports.inputs (map (λ p. p.name) ports.outputs)
      (root_classes width net graph ports.outputs) gates
