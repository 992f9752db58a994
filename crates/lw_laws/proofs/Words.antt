-- Words of the proofs alone.
use Rattle.std.specs.Prelude.{ℕ, zero, suc, ◌<◌, ◌≤◌, ◌≡◌, ◌^◌, ◌⊎◌, List, [], ◌∷◌, length, Option, Some, ◌+◌, map, nat_lt, cond, Bool, ◌*◌, ◌++◌}
use Rattle.lw_laws.specs.Costs.{Cost, cost_of}
use Rattle.lw_laws.specs.Covers.{HasPins, Timing, start_of, latest, delays_of, Pattern, ArePatterns, Cover, tree_of, IsCover, time_of}
use Rattle.lw_laws.specs.Flip.{flip}
use Rattle.lw_laws.specs.Graphs.{Graph, class_of, Unfolds}
use Rattle.lw_laws.specs.Families.{Family, Derives, IsNand}
use Rattle.lw_laws.specs.Trees.{Tree}
use Rattle.lw_laws.specs.Modes.{Mode}
use Rattle.lw_laws.specs.NumberedForms.{NumberedForms, family_of, AreNumberedForms}
use Rattle.lw_laws.specs.Choices.{Choices}
use Rattle.lw_laws.specs.Rounds.{labels_in}
use Rattle.lw_laws.specs.Forms.{Form}
use Rattle.lw_laws.specs.Encodings.{Encodes}
use Rattle.lw_laws.specs.Delays.{delay_cost}
use Rattle.lw_laws.specs.Netlists.{Netlist, Gate, IsGate, AreOrdered, CellTruth}
use Rattle.lw_laws.specs.Forms.Form.{and_form}
use Rattle.lw_laws.specs.Listings.{IsListedAt, sign_of}
use Rattle.lw_laws.specs.Mapped.{IsMapped, IsPotentialOf}
use Rattle.lw_laws.specs.Networks.{Node, Network, node_value}

-- a form is an input or true, or it is the NAND of forms of less rank
pub data IsGrounded (F : Family) (rank : ℕ → ℕ) (f : ℕ) : Type 0 where
  input : (i : ℕ) → F.IsInput f i → IsGrounded F rank f
  top : F.IsTop f → IsGrounded F rank f
  split : (x y : ℕ) → IsNand F f x y → rank x < rank f → rank y < rank f → IsGrounded F rank f

abbrev pub input_values : (ℕ → Bool) → ℕ → ℕ → List Bool
input_values x i zero = []
input_values x i (suc n) = x i ∷ input_values x (i + 1) n

abbrev pub values_after : List Bool → List Node → List Bool
values_after values [] = values
values_after values (node ∷ nodes) = values_after (values ++ node_value values node ∷ []) nodes

-- the values of the nets
abbrev pub net_values : (ℕ → Bool) → Network → List Bool
net_values x net = values_after (input_values x 0 net.inputs) net.nodes

-- there are fewer than 2 ^ 32 inputs, and a match has one class for each pin of its cell
pub record AreChoices (M : Choices) (cost : Cost) : Type 0 where
  pub inputs : (c i : ℕ) → M.IsInput c i → i < 2 ^ 32
  pub matches : (c cell : ℕ) (ps : List ℕ) → M.IsMatch c cell ps → HasPins cost.pin_counts cell (length ps)

-- how many of the numbers 0 to n - 1 have a height below h
abbrev pub count_below : (ℕ → ℕ) → ℕ → ℕ → ℕ
count_below heights zero h = 0
count_below heights (suc n) h = cond (nat_lt (heights n) h) 1 0 + count_below heights n h

-- the forms that occur, and those that facts name, are closed under complements, and each pair of a form
-- and its complement has one that is grounded
pub record IsFamily (F : Family) (rank : ℕ → ℕ) : Type 0 where
  pub flips : (f : ℕ) → F.Occurs f → F.Occurs (flip f)
  pub inputs : (f i : ℕ) → F.IsInput f i → F.Occurs f
  pub tops : (f : ℕ) → F.IsTop f → F.Occurs f
  pub splits : (f x y : ℕ) → F.IsSplit f x y → F.Occurs f × F.Occurs x × F.Occurs y
  pub links : (f h : ℕ) → F.IsLink f h → F.Occurs f × F.Occurs h
  pub rank_flip : (f : ℕ) → rank (flip f) ≡ rank f
  pub grounded : (f : ℕ) → F.Occurs f → IsGrounded F rank f ⊎ IsGrounded F rank (flip f)

abbrev pub HasSomeTree : Family → ℕ → Type 0
HasSomeTree F f = (t : Tree) × Derives F f t

-- two forms are of one class
abbrev pub HaveCommonTree : Family → ℕ → ℕ → Type 0
HaveCommonTree F f h = (t : Tree) × Derives F f t × Derives F h t

-- the least time of a cover of a tree that the rules derive for the form
pub record HasLeastNumberedTime (mode : Mode) (forms : NumberedForms) (pats : List Pattern) (timing : Timing) (f d : ℕ) : Type 0 where
  pub attained : (k : Cover) × IsCover (map length timing.delays) pats k × Derives (family_of mode forms) f (tree_of k) × (time_of timing k ≡ d)
  pub least : (k : Cover) → IsCover (map length timing.delays) pats k → Derives (family_of mode forms) f (tree_of k) → d ≤ time_of timing k

abbrev pub HasNoNumberedCover : Mode → NumberedForms → List Pattern → Timing → ℕ → Type 0
HasNoNumberedCover mode forms pats timing f =
    (k : Cover) → IsCover (map length timing.delays) pats k → Derives (family_of mode forms) f (tree_of k) → ⊥

-- values of nets as a function, right for the inputs' values x
pub record AreNetValues (truth : CellTruth) (n : Netlist) (x values : ℕ → Bool) : Type 0 where
  pub inputs : (i : ℕ) → i < n.inputs → values i ≡ x i
  pub gates : (j : ℕ) (g : Gate) → IsGate n j g → values (n.inputs + j) ≡ truth g.cell (map values g.pins)

-- arrivals of nets as a function
pub record AreNetArrivals (timing : Timing) (n : Netlist) (arrivals : ℕ → ℕ) : Type 0 where
  pub inputs : (i : ℕ) → i < n.inputs → arrivals i ≡ start_of timing.starts i
  pub gates : (j : ℕ) (g : Gate) → IsGate n j g → arrivals (n.inputs + j) ≡ latest (delays_of timing.delays g.cell) (map arrivals g.pins)

-- what a mapped netlist with labels and classes is over an encoding
pub record IsCertified (mode : Mode) (forms : NumberedForms) (g : Graph) (pats : List Pattern) (timing : Timing) (cap : ℕ) (labels : List (Option ℕ)) (n : Netlist) (class arrivals : ℕ → ℕ) : Type 0 where
  pub forms_are : AreNumberedForms forms
  pub encodes : Encodes (family_of mode forms) g
  pub few : length g.leaves < 2 ^ 32
  pub patterns : ArePatterns (map length timing.delays) pats
  pub potential : IsPotentialOf g pats (delay_cost timing cap) labels
  pub ordered : AreOrdered n
  pub mapped : IsMapped g (map length timing.delays) pats n class
  pub arrivals_are : AreNetArrivals timing n arrivals

-- the net is at the form's class, and its arrival is the class's label
pub record IsOutput (g : Graph) (labels : List (Option ℕ)) (n : Netlist) (class arrivals : ℕ → ℕ) (net f : ℕ) : Type 0 where
  pub in_range : net < n.inputs + length n.gates
  pub at_class : class net ≡ class_of g f
  pub at_label : labels_in labels (class net) ≡ Some (arrivals net)

-- a cover of a tree that unfolds at the class costs d
pub record CoversClass (g : Graph) (cost : Cost) (pats : List Pattern) (c d : ℕ) : Type 0 where
  pub by : Cover
  pub is_cover : IsCover cost.pin_counts pats by
  pub unfolds : Unfolds g (tree_of by) c
  pub costs : cost_of cost by ≡ d

-- this is the form's number
abbrev pub IsNumber : List Form → Form → ℕ → Type 0
IsNumber bases f n = (b : ℕ) × IsListedAt bases b f × (n ≡ 2 * b + sign_of f)

abbrev pub and_count : List Form → ℕ
and_count [] = 0
and_count (and_form fs ∷ rest) = 1 + and_count rest
and_count (_ ∷ rest) = and_count rest
