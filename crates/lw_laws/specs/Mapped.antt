-- Netlists whose gates are matches over the classes of a graph.
use Rattle.std.specs.Prelude.{ℕ, ◌+◌, ◌<◌, ◌≤◌, ◌≡◌, ◌^◌, Bool, List, length, map, Option, Some, slice_get}
use Rattle.std.specs.Prelude.{slice_index_or}
use Rattle.std.specs.List.{AllZip}
use Rattle.lw_laws.specs.Modes.{Mode}
use Rattle.lw_laws.specs.Trees.{tree_value}
use Rattle.lw_laws.specs.Graphs.{Graph, Unfolds, class_of}
use Rattle.lw_laws.specs.NumberedForms.{NumberedForms, family_of}
use Rattle.lw_laws.specs.Encodings.{Encodes}
use Rattle.lw_laws.specs.Covers.{Timing, Pattern, ArePatterns, Cover, IsCover, tree_of, time_of}
use Rattle.lw_laws.specs.Matches.{IsMatchAt, choices_of}
use Rattle.lw_laws.specs.Choices.{IsPotential}
use Rattle.lw_laws.specs.Costs.{Cost}
use Rattle.lw_laws.specs.Rounds.{labels_in}
use Rattle.lw_laws.specs.Delays.{delay_cost}
use Rattle.lw_laws.specs.Netlists.{Netlist, Gate, IsGate, AreOrdered, CellTruth, AreNetlistValues, AreArrivals}
use Rattle.lw_laws.specs.Netlists.{StandsFor}
use Rattle.lw_laws.specs.Networks.{Network}
use Rattle.lw_laws.specs.Listings.{Listing, listing_of}
use Rattle.lw_laws.specs.Classes.{class_in}
use Rattle.lw_laws.specs.Signals.{sop_at, signals_of}
use Rattle.lw_laws.specs.Forms.{Form}
use Rattle.lw_laws.specs.Numbering.{number, numbered}
use Rattle.lw_laws.specs.Occurring.{occurring_forms}
use Rattle.lw_laws.specs.Headline.{Ports}

-- each net has a class: that of its input, or one where a pattern of the gate's cell stands with the pins' classes
pub record IsMapped (g : Graph) (pin_counts : List ℕ) (pats : List Pattern) (n : Netlist) (class : ℕ → ℕ) : Type 0 where
  pub inputs : (i : ℕ) → i < n.inputs → slice_get g.leaves i ≡ Some (class i)
  pub gates : (j : ℕ) (gt : Gate) → IsGate n j gt → IsMatchAt g pin_counts pats (class (n.inputs + j)) gt.cell
      (map class gt.pins)

-- the labels are a potential of the graph's matches
abbrev pub IsPotentialOf : Graph → List Pattern → Cost → List (Option ℕ) → Type 0
IsPotentialOf g pats cost labels = IsPotential (choices_of g cost.pin_counts pats) cost (labels_in labels)

-- the numbers of the forms of a network
abbrev pub forms_of : ℕ → Network → NumberedForms
forms_of width net = numbered net.inputs (listing_of width net)

-- the class of the sum of products of a net
abbrev pub root_class : ℕ → Network → Graph → ℕ → ℕ
root_class width net g s = class_of g (number (occurring_forms width net) (sop_at (signals_of width net) s))

-- The graph encodes the listed forms, and the labels are a potential of its matches.
pub record IsLabelledOverForms (mode : Mode) (inputs : ℕ) (o : Listing) (g : Graph) (pats : List Pattern)
    (timing : Timing) (cap : ℕ) (labels : List (Option ℕ)) : Type 0 where
  pub encodes : Encodes (family_of mode (numbered inputs o)) g
  pub few : length g.leaves < 2 ^ 32
  pub patterns : ArePatterns (map length timing.delays) pats
  pub potential : IsPotentialOf g pats (delay_cost timing cap) labels

-- The netlist's gates are matches over such a graph.
pub record IsMappedOverForms (mode : Mode) (inputs : ℕ) (o : Listing) (g : Graph) (pats : List Pattern)
    (timing : Timing) (cap : ℕ) (labels : List (Option ℕ)) (n : Netlist) (class : ℕ → ℕ) : Type 0 where
  pub labelled : IsLabelledOverForms mode inputs o g pats timing cap labels
  pub ordered : AreOrdered n
  pub mapped : IsMapped g (map length timing.delays) pats n class

-- The graph encodes the listed forms, and the netlist's gates are matches over it.
pub record IsCoveredOverForms (mode : Mode) (inputs : ℕ) (o : Listing) (g : Graph) (pats : List Pattern)
    (timing : Timing) (n : Netlist) (class : ℕ → ℕ) : Type 0 where
  pub encodes : Encodes (family_of mode (numbered inputs o)) g
  pub patterns : ArePatterns (map length timing.delays) pats
  pub ordered : AreOrdered n
  pub mapped : IsMapped g (map length timing.delays) pats n class

-- Net k of the netlist is at the class of the form.
pub record IsAtForm (o : Listing) (g : Graph) (n : Netlist) (class : ℕ → ℕ) (f : Form) (k : ℕ) : Type 0 where
  pub of_netlist : k < n.inputs + length n.gates
  pub at_class : class k ≡ class_in o g f

-- The netlist has these ports over so many inputs, and each output's net is at the form of the network's net.
pub record AreAtForms (inputs : ℕ) (o : Listing) (form : ℕ → Form) (g : Graph) (n : Netlist) (class : ℕ → ℕ)
    (ports mapped : Ports) : Type 0 where
  pub inputs_are : n.inputs ≡ inputs
  pub input_names : mapped.inputs ≡ ports.inputs
  pub outputs : AllZip (λ p q. (p.name ≡ q.name) × IsAtForm o g n class (form p.net) q.net) ports.outputs mapped.outputs

-- Net k of the netlist is at the class of the form, and its arrival is the class's label.
pub record IsRootedAtForm (o : Listing) (g : Graph) (labels : List (Option ℕ)) (n : Netlist) (class : ℕ → ℕ)
    (arrivals : List ℕ) (f : Form) (k : ℕ) : Type 0 where
  pub at_form : IsAtForm o g n class f k
  pub at_label : labels_in labels (class k) ≡ Some (slice_index_or arrivals k 0)

-- The netlist has these ports over so many inputs, and each output's net is rooted at the form of the network's net.
pub record AreRootedAtForms (inputs : ℕ) (o : Listing) (form : ℕ → Form) (g : Graph) (labels : List (Option ℕ))
    (n : Netlist) (class : ℕ → ℕ) (arrivals : List ℕ) (ports mapped : Ports) : Type 0 where
  pub inputs_are : n.inputs ≡ inputs
  pub input_names : mapped.inputs ≡ ports.inputs
  pub outputs : AllZip
      (λ p q. (p.name ≡ q.name) × IsRootedAtForm o g labels n class arrivals (form p.net) q.net) ports.outputs
      mapped.outputs

-- The graph encodes the network's forms, and the labels are a potential of its matches.
pub record IsLabelledOver (mode : Mode) (width : ℕ) (net : Network) (g : Graph) (pats : List Pattern) (timing : Timing)
    (cap : ℕ) (labels : List (Option ℕ)) : Type 0 where
  pub wide : 2 ≤ width
  pub over : IsLabelledOverForms mode net.inputs (listing_of width net) g pats timing cap labels

-- The netlist's gates are matches over such a graph.
pub record IsMappedOver (mode : Mode) (width : ℕ) (net : Network) (g : Graph) (pats : List Pattern) (timing : Timing)
    (cap : ℕ) (labels : List (Option ℕ)) (n : Netlist) (class : ℕ → ℕ) : Type 0 where
  pub wide : 2 ≤ width
  pub over : IsMappedOverForms mode net.inputs (listing_of width net) g pats timing cap labels n class

-- The graph encodes the network's forms, and the netlist's gates are matches over it.
pub record IsCoveredOver (mode : Mode) (width : ℕ) (net : Network) (g : Graph) (pats : List Pattern) (timing : Timing)
    (n : Netlist) (class : ℕ → ℕ) : Type 0 where
  pub wide : 2 ≤ width
  pub over : IsCoveredOverForms mode net.inputs (listing_of width net) g pats timing n class

-- Net k of the netlist is at the class of net s of the network.
pub record IsAtNet (width : ℕ) (net : Network) (g : Graph) (n : Netlist) (class : ℕ → ℕ) (s k : ℕ) : Type 0 where
  pub of_network : s < net.inputs + length net.nodes
  pub at_form : IsAtForm (listing_of width net) g n class (sop_at (signals_of width net) s) k

-- Net k of the netlist is at the class of net s of the network, and its arrival is the class's label.
pub record IsRootedAt (width : ℕ) (net : Network) (g : Graph) (labels : List (Option ℕ)) (n : Netlist) (class : ℕ → ℕ)
    (arrivals : List ℕ) (s k : ℕ) : Type 0 where
  pub of_network : s < net.inputs + length net.nodes
  pub rooted : IsRootedAtForm (listing_of width net) g labels n class arrivals (sop_at (signals_of width net) s) k

-- The netlist has the network's ports, and each output's net is rooted at the network's net.
pub record AreRooted (width : ℕ) (net : Network) (g : Graph) (labels : List (Option ℕ)) (n : Netlist) (class : ℕ → ℕ)
    (arrivals : List ℕ) (ports mapped : Ports) : Type 0 where
  pub inputs : n.inputs ≡ net.inputs
  pub input_names : mapped.inputs ≡ ports.inputs
  pub outputs : AllZip
      (λ p q. (p.name ≡ q.name) × IsRootedAt width net g labels n class arrivals p.net q.net) ports.outputs
      mapped.outputs

-- The net stands for a cover of a tree that unfolds at its class, has the tree's value, and arrives at the cover's
-- time.
pub record IsCoverAt (g : Graph) (pats : List Pattern) (timing : Timing) (truth : CellTruth) (n : Netlist)
    (class : ℕ → ℕ) (net : ℕ) : Type 0 where
  pub by : Cover
  pub is_cover : IsCover (map length timing.delays) pats by
  pub stands : StandsFor n by net
  pub unfolds : Unfolds g (tree_of by) (class net)
  pub value : (x : ℕ → Bool) (values : List Bool) → AreNetlistValues truth n x values
      → slice_get values net ≡ Some (tree_value x (tree_of by))
  pub arrival : (arrivals : List ℕ) → AreArrivals timing n arrivals → slice_get arrivals net ≡ Some (time_of timing by)
