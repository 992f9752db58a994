-- Lists of the numbers of sides at a class, and the rules by which the numbers of parts follow from them.
use Rattle.std.specs.Prelude.{ℕ, ◌<◌, ◌≤◌, ◌≡◌, ◌⊎◌, ◌==◌, if◌then◌else◌, Bool, List, [], ◌∷◌, length, max, Some, None}
use Rattle.std.specs.Prelude.{slice_get, slice_index, slice_index_or}
use Rattle.lw_bounds.specs.declared.parts.Kind.{Kind}
use Rattle.lw_bounds.specs.declared.parts.Kind.TheVariants.{Any, Leaf, One, Joined}
use Rattle.lw_bounds.specs.declared.parts.Side.{Side}
use Rattle.lw_bounds.specs.declared.parts.Part.{Part}
use Rattle.lw_bounds.specs.declared.parts.Rule.{Rule}
use Rattle.lw_bounds.specs.declared.parts.Group.{Group}
use Rattle.lw_bounds.specs.declared.parts.Root.{Root}
use Rattle.lw_bounds.specs.declared.rows.View.{View}
use Rattle.lw_bounds.specs.Shapes.{SideFits}
use Rattle.lw_laws.specs.Flip.{flip}
use Rattle.lw_bounds.specs.Numbers.{never, shifted, mark_number, kind_number, Reading, side_number}

-- 0 is the list of pins and constants, 1 the row of the class, 2 the row of its complement
abbrev pub list_by : Kind → Bool → ℕ
list_by Any flipped = 0
list_by (Leaf shift) flipped = 0
list_by One flipped = 0
list_by (Joined part shift) flipped = if flipped then 2 else 1

abbrev pub list_of : Side → ℕ
list_of s = list_by s.kind s.flipped

-- in the list of pins and constants the cost of the class comes first, then that of its complement, true, its
-- complement, and any tree
abbrev pub place_by : Kind → Bool → ℕ
place_by Any flipped = 4
place_by (Leaf shift) flipped = if flipped then 1 else 0
place_by One flipped = if flipped then 3 else 2
place_by (Joined part shift) flipped = part

abbrev pub place_of : Side → ℕ
place_of s = place_by s.kind s.flipped

-- what is added to the number below
abbrev pub shift_of : Kind → ℕ
shift_of Any = 0
shift_of (Leaf shift) = shift
shift_of One = 0
shift_of (Joined part shift) = shift

abbrev pub rule_of : ℕ → Part → Rule
rule_of n p = record {
  part = n;
  left = place_of p.left;
  right = place_of p.right;
  left_shift = shift_of p.left.kind;
  right_shift = shift_of p.right.kind;
}

-- each rule is that of a part whose sides are in these two lists
abbrev pub AreRulesOf : List Part → ℕ → ℕ → List Rule → Type 0
AreRulesOf parts left right rules =
    (i : ℕ) (q : Rule) → slice_get rules i ≡ Some q → (n : ℕ) × (p : Part) × (slice_get parts n ≡ Some p)
    × (q ≡ rule_of n p) × (list_of p.left ≡ left) × (list_of p.right ≡ right)

-- the rule of each of the first parts whose sides are in these two lists is there
abbrev pub HaveRules : List Part → ℕ → ℕ → List Rule → ℕ → Type 0
HaveRules parts left right rules count =
    (n : ℕ) (p : Part) → n < count → slice_get parts n ≡ Some p → list_of p.left ≡ left → list_of p.right ≡ right
    → (i : ℕ) × (slice_get rules i ≡ Some (rule_of n p))

-- the rules of the parts whose sides are in these two lists
pub record IsGroupOf (parts : List Part) (left right : ℕ) (group : Group) : Type 0 where
  pub left_is : group.left ≡ left
  pub right_is : group.right ≡ right
  pub rules : AreRulesOf parts left right group.rules.items
  pub whole : HaveRules parts left right group.rules.items (length parts)

-- the part has its rule in a group
abbrev pub HasRule : List Group → ℕ → Part → Type 0
HasRule groups n p =
    (i j : ℕ) × (group : Group) × (slice_get groups i ≡ Some group) × (group.left ≡ list_of p.left)
    × (group.right ≡ list_of p.right) × (slice_get group.rules.items j ≡ Some (rule_of n p))

-- rules of these parts, by two of the three lists
abbrev pub IsGroupAmong : List Part → Group → Type 0
IsGroupAmong parts group =
    (group.left ≤ 2) × (group.right ≤ 2) × AreRulesOf parts group.left group.right group.rules.items

-- groups of rules of these parts
abbrev pub AreGroupsOf : List Part → List Group → Type 0
AreGroupsOf parts groups =
    (i : ℕ) (group : Group) → slice_get groups i ≡ Some group → IsGroupAmong parts group

-- each part has its rule
pub record AreGrouped (parts : List Part) (groups : List Group) : Type 0 where
  pub rules : AreGroupsOf parts groups
  pub whole : (n : ℕ) (p : Part) → slice_get parts n ≡ Some p → HasRule groups n p

-- the lists at a class
abbrev pub list_at : View → ℕ → List ℕ
list_at v n = if n == 0 then v.leaves.now else (if n == 1 then v.row.now else v.other.now)

-- the numbers of pins and constants at a class
abbrev pub leaves_of : Reading → ℕ → List ℕ
leaves_of r c =
    mark_number (slice_index_or r.marks c None) ∷ mark_number (slice_index_or r.marks (flip c) None) ∷
    kind_number r One c ∷ kind_number r One (flip c) ∷ 0 ∷ []

-- a row of this width, or none
abbrev pub IsRow : ℕ → List ℕ → Type 0
IsRow width row = (length row ≡ 0) ⊎ (length row ≡ width)

pub record IsView (width : ℕ) (v : View) : Type 0 where
  pub leaves : length v.leaves.now ≡ 5
  pub row : IsRow width v.row.now
  pub other : IsRow width v.other.now

-- the number of a side by the lists
abbrev pub view_number : View → Side → ℕ
view_number v s =
    shifted (slice_index_or (list_at v (list_of s)) (place_of s) never) (shift_of s.kind)

-- each side has its number at the class in the lists
abbrev pub HasSides : Reading → ℕ → View → Type 0
HasSides r c v = (s : Side) → SideFits r.width s → view_number v s ≡ side_number r s c

-- what a rule gives its part by the lists of its two sides
abbrev pub given : List ℕ → List ℕ → Rule → ℕ
given xs ys q =
    max (shifted (slice_index_or xs q.left never) q.left_shift)
    (shifted (slice_index_or ys q.right never) q.right_shift)

-- the rules name places in the lists
abbrev pub AreWithin : List ℕ → List ℕ → List ℕ → List Rule → Type 0
AreWithin xs ys least rules =
    (i : ℕ) (q : Rule) → slice_get rules i ≡ Some q → (q.left < length xs) × (q.right < length ys)
    × (q.part < length least)

-- none of the numbers is above its old one
abbrev pub AreNoMore : List ℕ → List ℕ → Type 0
AreNoMore new old = (k : ℕ) → slice_index new k ≤ slice_index old k

abbrev pub AreNumbers : List ℕ → Type 0
AreNumbers numbers = (k : ℕ) → slice_index numbers k ≤ never

-- the root of a pattern that is this side
abbrev pub root_of : ℕ → Side → Root
root_of n s = record { pattern = n; place = place_of s; shift = shift_of s.kind }

-- of the first roots, those that have their numbers in this list are there
abbrev pub AreListed : List Side → ℕ → List Root → ℕ → Type 0
AreListed sides list roots count =
    (n : ℕ) (s : Side) → n < count → slice_get sides n ≡ Some s → list_of s ≡ list
    → (i : ℕ) × (slice_get roots i ≡ Some (root_of n s))

-- each root is in one of three lists
pub record AreRootsListed (sides : List Side) (leaf row other : List Root) : Type 0 where
  pub in_leaves : AreListed sides 0 leaf (length sides)
  pub in_row : AreListed sides 1 row (length sides)
  pub in_other : AreListed sides 2 other (length sides)

-- the number at a place of a list is not below the top
pub record IsFar (numbers : List ℕ) (place shift top : ℕ) : Type 0 where
  pub reached : top ≤ shifted (slice_index_or numbers place never) shift
  pub most : shifted (slice_index_or numbers place never) shift ≤ never

-- so it is with the numbers of the roots of these patterns in a list
abbrev pub AreFar : ℕ → List ℕ → List Root → ℕ → Type 0
AreFar patterns numbers roots top =
    (i : ℕ) (root : Root) → slice_get roots i ≡ Some root → root.pattern < patterns
    → IsFar numbers root.place root.shift top

-- the rules, lists as long as the parts, and the roots in lists
pub record HasRoom (parts : List Part) (groups : List Group) (least : List ℕ) (roots : List Side)
    (leaf row other : List Root) : Type 0 where
  pub grouped : AreGrouped parts groups
  pub least_room : length least ≡ length parts
  pub roots_listed : AreRootsListed roots leaf row other
