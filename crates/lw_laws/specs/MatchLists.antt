-- Lists of matches, each at a class, and the netlists that they make.
use Rattle.std.specs.Prelude.{ℕ, ◌+◌, ◌<◌, ◌≡◌, List, length, map, Some, slice_get}
use Rattle.std.specs.List.{AllByRecursion, AllZip}
use Rattle.lw_laws.specs.Graphs.{Graph}
use Rattle.lw_laws.specs.Covers.{Pattern}
use Rattle.lw_laws.specs.Netlists.{Gate, Netlist, IsGate, AreOrdered}
use Rattle.lw_laws.specs.Extracts.{Match, IsMatchBy, IsLeafClass, IsNetOf, class_at}
use Rattle.lw_laws.specs.Mapped.{IsMapped}

-- a class, and the match that is its gate
pub record Gated : Type 0 where
  pub class : ℕ
  pub found : Match

abbrev pub gated_classes : List Gated → List ℕ
gated_classes xs = map (λ x. x.class) xs

-- the class has a net before that of gate j: it is an input's class, or that of an earlier gate
abbrev pub HasNetBefore : Graph → List ℕ → ℕ → ℕ → Type 0
HasNetBefore g gates j c = (net : ℕ) × (net < length g.leaves + j) × IsNetOf g gates c net

-- no class stands twice, and none is an input's
pub record AreGatesApart (g : Graph) (gates : List ℕ) : Type 0 where
  pub once : (i j c : ℕ) → slice_get gates i ≡ Some c → slice_get gates j ≡ Some c → i ≡ j
  pub no_leaf : (j c : ℕ) → slice_get gates j ≡ Some c → IsLeafClass g c → ⊥

-- Each match is one at its class, no class stands twice or is an input's, and each pin's class is an input's or stands
-- earlier.
pub record AreMatchesInOrder (g : Graph) (pin_counts : List ℕ) (pats : List Pattern) (xs : List Gated) : Type 0 where
  pub apart : AreGatesApart g (gated_classes xs)
  pub matches : (j : ℕ) (x : Gated) → slice_get xs j ≡ Some x
      → (p : Pattern) × IsMatchBy g pin_counts pats x.class x.found p
  pub before : (j : ℕ) (x : Gated) → slice_get xs j ≡ Some x
      → AllByRecursion (HasNetBefore g (gated_classes xs) j) x.found.pins

-- the gate is of the cell of the match's pattern, and its pins are nets of the match's
pub record IsGateOf (g : Graph) (pats : List Pattern) (gates : List ℕ) (m : Match) (gt : Gate) : Type 0 where
  pub cell : (p : Pattern) → slice_get pats m.pattern ≡ Some p → gt.cell ≡ p.cell
  pub pins : AllZip (λ q net. IsNetOf g gates q net) m.pins gt.pins

-- there is a gate for each match, in order
pub record IsMadeOf (g : Graph) (pats : List Pattern) (xs : List Gated) (n : Netlist) : Type 0 where
  pub inputs : n.inputs ≡ length g.leaves
  pub one_each : length n.gates ≡ length xs
  pub gates : (j : ℕ) (x : Gated) (gt : Gate) → slice_get xs j ≡ Some x → IsGate n j gt
      → IsGateOf g pats (gated_classes xs) x.found gt

-- There is a gate for each of the classes, of which none stands twice or is an input's. The gates are in order, and
-- each is a match at its class with the classes of its pins.
pub record IsMatchNetlist (g : Graph) (pin_counts : List ℕ) (pats : List Pattern) (gates : List ℕ)
    (n : Netlist) : Type 0 where
  pub inputs : n.inputs ≡ length g.leaves
  pub one_each : length n.gates ≡ length gates
  pub apart : AreGatesApart g gates
  pub ordered : AreOrdered n
  pub mapped : IsMapped g pin_counts pats n (class_at g gates)
