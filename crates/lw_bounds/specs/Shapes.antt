-- Parts of patterns, and the trees of their shape.
use Rattle.std.specs.Prelude.{ℕ, ◌+◌, ◌-◌, ◌^◌, ◌<◌, ◌≤◌, ◌≡◌, ◌⊎◌, not, false, List, [], ◌++◌, length, Some, slice_get}
use Rattle.std.specs.Prelude.{slice_index, slice_index_or}
use Rattle.lw_laws.specs.Trees.{Tree, leaf, const_one, const_zero, inv, nand}
use Rattle.lw_laws.specs.Covers.{Pattern}
use Rattle.lw_pattern.specs.Nodes.{tree_at, nodes_of}
use Rattle.lw_pattern.specs.declared.node.PatNode.{PatNode}
use Rattle.lw_bounds.specs.declared.parts.Kind.{Kind}
use Rattle.lw_bounds.specs.declared.parts.Kind.TheVariants.{Any, Leaf, One, Joined}
use Rattle.lw_bounds.specs.declared.parts.Side.{Side}
use Rattle.lw_bounds.specs.declared.parts.Part.{Part}

abbrev pub plain : Kind → Side
plain kind = record { kind = kind; flipped = false }

-- the complement of a side
abbrev pub turned : Side → Side
turned s = record { kind = s.kind; flipped = not s.flipped }

-- the two sides in one order or the other
abbrev pub AreEitherOf : Side → Side → Part → Type 0
AreEitherOf left right p =
    ((p.left ≡ left) × (p.right ≡ right)) ⊎ ((p.left ≡ right) × (p.right ≡ left))

-- the side has a pin
abbrev pub HasPin : Kind → Type 0
HasPin Any = ⊥
HasPin (Leaf shift) = Unit {0}
HasPin One = ⊥
HasPin (Joined part shift) = Unit {0}

-- one of the sides has a pin
abbrev pub IsPinned : Part → Type 0
IsPinned p = HasPin p.left.kind ⊎ HasPin p.right.kind

-- the tree is of the shape of the side: pins are alike whose gaps are the same sum of the base and the shifts down to
-- them, and the sides of a NAND may be exchanged
abbrev pub HasShape : List Part → List ℕ → ℕ → Tree → Side → Type 0
HasShape parts gaps base (leaf k) s =
    (s.kind ≡ Any) ⊎ ((d : ℕ) × (s ≡ plain (Leaf d)) × (base + d ≡ slice_index gaps k))
HasShape parts gaps base const_one s = (s.kind ≡ Any) ⊎ (s ≡ plain One)
HasShape parts gaps base const_zero s = (s.kind ≡ Any) ⊎ (s ≡ turned (plain One))
HasShape parts gaps base (inv t) s = HasShape parts gaps base t (turned s)
HasShape parts gaps base (nand t u) s =
    (s.kind ≡ Any)
    ⊎ ((n d : ℕ) × (p : Part) × (s ≡ plain (Joined n d)) × (slice_get parts n ≡ Some p) × IsPinned p
    × ((HasShape parts gaps (base + d) t p.left × HasShape parts gaps (base + d) u p.right)
    ⊎ (HasShape parts gaps (base + d) t p.right × HasShape parts gaps (base + d) u p.left)))

-- what each pin of the side is above, none of which is there where the side has no pin
abbrev pub kind_base : Kind → ℕ
kind_base Any = 18446744073709551615
kind_base (Leaf shift) = shift
kind_base One = 18446744073709551615
kind_base (Joined part shift) = shift

abbrev pub kind_above : ℕ → Kind → Kind
kind_above base Any = Any
kind_above base (Leaf shift) = Leaf (shift - base)
kind_above base One = One
kind_above base (Joined part shift) = Joined part (shift - base)

-- the side with its shift relative to a base
abbrev pub side_above : ℕ → Side → Side
side_above base s = record { kind = kind_above base s.kind; flipped = s.flipped }

-- the side of a part that is in the list, with a shift
abbrev pub IsJoined : List Part → Part → ℕ → Side → Type 0
IsJoined parts p shift s = (n : ℕ) × (s ≡ plain (Joined n shift)) × (slice_get parts n ≡ Some p)

-- the side is the NAND of two sides that are of earlier parts
abbrev pub JoinsShapes : List Part → List Part → Side → Side → Side → Type 0
JoinsShapes before parts left right s =
    (gaps : List ℕ) (t u : Tree) → HasShape before gaps 0 t left → HasShape before gaps 0 u right
    → HasShape parts gaps 0 (nand t u) s

-- the part that is named is one of the first n
abbrev pub KindFits : ℕ → Kind → Type 0
KindFits n Any = Unit {0}
KindFits n (Leaf shift) = Unit {0}
KindFits n One = Unit {0}
KindFits n (Joined part shift) = part < n

abbrev pub SideFits : ℕ → Side → Type 0
SideFits n s = KindFits n s.kind

-- the sides of the parts name parts of the list
abbrev pub AreClosed : List Part → Type 0
AreClosed parts =
    (n : ℕ) (p : Part) → slice_get parts n ≡ Some p → SideFits (length parts) p.left × SideFits (length parts) p.right

-- such parts, no more of them than there is room for, which is so little that places are 32 bits long
pub record AreParts (room : ℕ) (parts : List Part) : Type 0 where
  pub small : room < 2 ^ 32
  pub few : length parts ≤ room
  pub closed : AreClosed parts

-- these parts, and others behind them
abbrev pub AreMoreParts : List Part → List Part → Type 0
AreMoreParts parts more = (rest : List Part) × (more ≡ parts ++ rest)

-- the side of each of the first nodes has the shape of the node's tree
abbrev pub HaveShapes : List Part → List ℕ → List PatNode → List Side → Type 0
HaveShapes parts gaps nodes sides =
    (place : ℕ) (s : Side) → slice_get sides place ≡ Some s → HasShape parts gaps 0 (tree_at nodes place) s

-- the gaps of the pins of a pattern
abbrev pub gaps_of : List (List ℕ) → ℕ → List ℕ
gaps_of all i = slice_index_or all i []

-- so it is for each pattern
abbrev pub AllHaveShapes : List Part → List (List ℕ) → List Pattern → List (List Side) → Type 0
AllHaveShapes parts gaps pats all =
    (i : ℕ) (p : Pattern) → slice_get pats i ≡ Some p → HaveShapes parts (gaps_of gaps i) (nodes_of p.tree)
    (slice_index_or all i [])

-- the sides of the roots of patterns
abbrev pub HaveRootShapes : List Part → List (List ℕ) → List Pattern → List Side → Type 0
HaveRootShapes parts gaps pats roots =
    (i : ℕ) (p : Pattern) (s : Side) → slice_get pats i ≡ Some p → slice_get roots i ≡ Some s
    → HasShape parts (gaps_of gaps i) 0 p.tree s
