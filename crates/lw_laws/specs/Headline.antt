-- What a mapping owes: the network's ports and values, least arrivals, and names of its nets that tell them apart.
use Rattle.std.specs.Prelude.{ℕ, ◌+◌, ◌≤◌, ◌≡◌, Bool, List, length, map, Some, slice_get, slice_index_or}
use Rattle.std.specs.List.{AllZip}
use Rattle.lw_laws.specs.Modes.{Mode}
use Rattle.lw_laws.specs.Networks.{Network, AreValues}
use Rattle.lw_laws.specs.Forms.{Form}
use Rattle.lw_laws.specs.Signals.{Signal, sop_at, signals_of}
use Rattle.lw_laws.specs.Decompositions.{HasTree}
use Rattle.lw_laws.specs.Covers.{Timing, Pattern, Cover, tree_of, IsCover, time_of}
use Rattle.lw_laws.specs.Netlists.{Netlist, AreOrdered, HaveCellPins, CellTruth, AreNetlistValues, AreArrivals}
use Rattle.lw_laws.specs.Netlists.{StandsFor}

-- d is the least time of a cover of a tree that the form has
pub record HasLeastTime (mode : Mode) (width : ℕ) (signals : List Signal) (pats : List Pattern) (timing : Timing)
    (f : Form) (d : ℕ) : Type 0 where
  pub attained : (k : Cover) × IsCover (map length timing.delays) pats k × HasTree mode width signals f (tree_of k)
      × (time_of timing k ≡ d)
  pub least : (k : Cover) → IsCover (map length timing.delays) pats k → HasTree mode width signals f (tree_of k)
      → d ≤ time_of timing k

-- no cover is of a tree that the form has
abbrev pub HasNoCoverOf : Mode → ℕ → List Signal → List Pattern → Timing → Form → Type 0
HasNoCoverOf mode width signals pats timing f =
    (k : Cover) → IsCover (map length timing.delays) pats k → HasTree mode width signals f (tree_of k) → ⊥

-- Net k of the netlist stands for a cover of a tree that the form has, whose time is d.
pub record StandsForCoverOf (mode : Mode) (width : ℕ) (signals : List Signal) (pats : List Pattern) (timing : Timing)
    (n : Netlist) (f : Form) (k d : ℕ) : Type 0 where
  pub by : Cover
  pub is_cover : IsCover (map length timing.delays) pats by
  pub stands : StandsFor n by k
  pub has_tree : HasTree mode width signals f (tree_of by)
  pub time : time_of timing by ≡ d

-- Of all covers by the library of all trees that the rules derive for the net's sum of products, the fastest takes d.
abbrev pub HasLeastArrival : Mode → ℕ → Network → List Pattern → Timing → ℕ → ℕ → Type 0
HasLeastArrival mode width net pats timing s d =
    HasLeastTime mode width (signals_of width net) pats timing (sop_at (signals_of width net) s) d

-- No cover by the library is of a tree that the rules derive for the net's sum of products.
abbrev pub HasNoCover : Mode → ℕ → Network → List Pattern → Timing → ℕ → Type 0
HasNoCover mode width net pats timing s =
    HasNoCoverOf mode width (signals_of width net) pats timing (sop_at (signals_of width net) s)

-- Net k of the netlist stands for a cover of a tree that the rules derive for the sum of products of net s, whose time
-- is d.
abbrev pub StandsForCover : Mode → ℕ → Network → List Pattern → Timing → Netlist → ℕ → ℕ → ℕ → Type 0
StandsForCover mode width net pats timing n s k d =
    StandsForCoverOf mode width (signals_of width net) pats timing n (sop_at (signals_of width net) s) k d

-- an output: its name, as bytes, and its net
pub record Port : Type 0 where
  pub name : List ℕ
  pub net : ℕ

-- the names of the inputs, and the outputs
pub record Ports : Type 0 where
  pub inputs : List (List ℕ)
  pub outputs : List Port

-- The mapped netlist is in order, its gates are cells of the library with a net for each pin, it has the network's
-- ports, each output has the network's value for all values of the inputs, and each output's net stands for a cover of
-- a tree of the output's form, whose time is its arrival.
pub record CoversForms (mode : Mode) (width : ℕ) (signals : List Signal) (form : ℕ → Form) (net : Network)
    (ports : Ports) (pats : List Pattern) (timing : Timing) (truth : CellTruth) (n : Netlist)
    (mapped : Ports) : Type 0 where
  pub ordered : AreOrdered n
  pub cells : HaveCellPins (map length timing.delays) n
  pub inputs : n.inputs ≡ net.inputs
  pub input_names : mapped.inputs ≡ ports.inputs
  pub output_names : AllZip (λ p q. p.name ≡ q.name) ports.outputs mapped.outputs
  pub values : (x : ℕ → Bool) (vs ws : List Bool) → AreValues net x vs → AreNetlistValues truth n x ws
      → AllZip (λ p q. slice_get vs p.net ≡ slice_get ws q.net) ports.outputs mapped.outputs
  pub covers : (ds : List ℕ) → AreArrivals timing n ds → AllZip
      (λ p q. StandsForCoverOf mode width signals pats timing n (form p.net) q.net (slice_index_or ds q.net 0))
      ports.outputs mapped.outputs

-- It does so, and each output's arrival is the least.
pub record MapsForms (mode : Mode) (width : ℕ) (signals : List Signal) (form : ℕ → Form) (net : Network) (ports : Ports)
    (pats : List Pattern) (timing : Timing) (truth : CellTruth) (n : Netlist) (mapped : Ports) : Type 0 where
  pub covering : CoversForms mode width signals form net ports pats timing truth n mapped
  pub arrivals : (ds : List ℕ) → AreArrivals timing n ds
      → AllZip (λ p q. HasLeastTime mode width signals pats timing (form p.net) (slice_index_or ds q.net 0))
      ports.outputs mapped.outputs

-- The netlist is such a one for the sums of products of the network's nets, by the trees that the rules derive for
-- them.
abbrev pub IsMapping : Mode → ℕ → Network → Ports → List Pattern → Timing → CellTruth → Netlist → Ports → Type 0
IsMapping mode width net ports pats timing truth n mapped =
    MapsForms mode width (signals_of width net) (sop_at (signals_of width net)) net ports pats timing truth n mapped

-- no name stands twice
abbrev pub AreDifferent : List (List ℕ) → Type 0
AreDifferent names = (i j : ℕ) (name : List ℕ) → slice_get names i ≡ Some name → slice_get names j ≡ Some name → i ≡ j

-- There is a name for each net, the nets' names differ and the outputs' do, and a net with an output's name is that
-- output's.
pub record AreNetNames (n : Netlist) (names : List (List ℕ)) (mapped : Ports) : Type 0 where
  pub one_each : length names ≡ n.inputs + length n.gates
  pub nets_differ : AreDifferent names
  pub outputs_differ : AreDifferent (map (λ p. p.name) mapped.outputs)
  pub owned : (j k : ℕ) (p : Port) → slice_get mapped.outputs k ≡ Some p → slice_get names j ≡ Some p.name → j ≡ p.net
