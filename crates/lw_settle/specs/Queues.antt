-- A queue of classes by their marks: a tree whose leaves are the classes, and in which each other node is the lesser of
-- two nodes.
use Rattle.std.specs.Prelude.{ℕ, ◌+◌, ◌-◌, ◌*◌, ◌^◌, ◌<◌, ◌≤◌, ◌≡◌, ◌≢◌, ◌⊎◌, ◌==◌, ◌||◌, ◌&&◌, Bool, nat_lt}
use Rattle.std.specs.Prelude.{if◌then◌else◌, List, length, map, drop, Option, Some, None, slice_get, slice_set}
use Rattle.std.specs.Prelude.{slice_index_or}
use Rattle.lw_laws.specs.Marks.{IsMarkAtMost}
use Rattle.lw_cost.specs.declared.mark.Mark.{Mark}
use Rattle.lw_cost.specs.Values.{plain_mark}
use Rattle.lw_settle.specs.declared.entry.Entry.{Entry}
use Rattle.lw_settle.specs.declared.queue.Taken.{Taken}

-- the greatest cost and height, which stand for no mark
abbrev pub no_cost : ℕ
no_cost = 2 ^ 64 - 1

abbrev pub no_height : ℕ
no_height = 2 ^ 32 - 1

-- what stands past the end of a tree
abbrev pub no_entry : Entry
no_entry = record { cost = 0; height = 0; class = 0 }

abbrev pub mark_of : Entry → Option Mark
mark_of e =
    if e.height == no_height then None else Some (record { cost = e.cost; height = e.height })

-- less cost, or the same and less height
abbrev pub is_before : Entry → Entry → Bool
is_before a b = nat_lt a.cost b.cost || (a.cost == b.cost && nat_lt a.height b.height)

abbrev pub lesser : Entry → Entry → Entry
lesser a b = if is_before b a then b else a

abbrev pub node : List Entry → ℕ → Entry
node tree i = slice_index_or tree i no_entry

-- the node is the lesser of the two below it
abbrev pub IsWonAt : List Entry → ℕ → Type 0
IsWonAt tree i = node tree i ≡ lesser (node tree (2 * i)) (node tree (2 * i + 1))

-- so is each that is no leaf, but perhaps one of them
abbrev pub AreWonBut : ℕ → List Entry → ℕ → Type 0
AreWonBut n tree but = (i : ℕ) → 0 < i → i < n → i ≢ but → IsWonAt tree i

-- a tree over so many classes, with room for each node, in which each but one is won
pub record IsWonBut (n : ℕ) (tree : List Entry) (but : ℕ) : Type 0 where
  pub long : length tree ≡ 2 * n
  pub few : n < 2 ^ 32
  pub won : AreWonBut n tree but

-- the leaf of a class: no cost and height are greater than those that stand for no mark
pub record IsLeafOf (e : Entry) (c : ℕ) : Type 0 where
  pub class : e.class ≡ c
  pub cost : e.cost ≤ no_cost
  pub height : e.height ≤ no_height
  pub none : e.height ≡ no_height → e.cost ≡ no_cost

-- the leaf of a class that does not wait
pub record IsIdleLeaf (e : Entry) (c : ℕ) : Type 0 where
  pub leaf : IsLeafOf e c
  pub none : mark_of e ≡ None

-- the leaf of a class that waits with the mark
pub record IsWaitingLeaf (e : Entry) (c : ℕ) (k : Mark) : Type 0 where
  pub leaf : IsLeafOf e c
  pub some : mark_of e ≡ Some k
  pub cost_is : e.cost ≡ k.cost
  pub height_is : e.height ≡ k.height

-- such a tree over n classes
pub record IsTree (n : ℕ) (tree : List Entry) : Type 0 where
  pub some : 0 < n
  pub few : n < 2 ^ 32
  pub long : length tree ≡ 2 * n
  pub won : AreWonBut n tree 0
  pub leaves : (c : ℕ) → c < n → IsLeafOf (node tree (n + c)) c

-- the marks of the classes that wait
abbrev pub waiting : ℕ → List Entry → List (Option Mark)
waiting n tree = map mark_of (drop n tree)

-- no class waits
abbrev pub AreNone : List (Option Mark) → Type 0
AreNone wait = (c : ℕ) → slice_index_or wait c None ≡ None

-- the class waits with this mark, and no class with one before it
pub record IsFirst (wait : List (Option Mark)) (t : Taken) : Type 0 where
  pub at : slice_get wait t.class.0 ≡ Some (Some t.mark)
  pub least : (c : ℕ) (k : Mark) → slice_index_or wait c None ≡ Some k → IsMarkAtMost (plain_mark t.mark) (plain_mark k)

-- the first class is taken, and none where none waits
abbrev pub TakesFirst : List (Option Mark) → List (Option Mark) → Option Taken → Type 0
TakesFirst old new None = AreNone old × (new ≡ old)
TakesFirst old new (Some t) = IsFirst old t × (new ≡ slice_set old t.class.0 None)

-- the class waits with the mark, which is not after the one that it had, or it had one that is not after the mark and
-- keeps it
abbrev pub IsLowered : List (Option Mark) → List (Option Mark) → ℕ → Mark → Type 0
IsLowered old new c k =
    ((new ≡ slice_set old c (Some k)) × ((j : Mark) → slice_index_or old c None ≡ Some j
    → IsMarkAtMost (plain_mark k) (plain_mark j))) ⊎
    ((new ≡ old) × ((j : Mark) × (slice_index_or old c None ≡ Some j) × IsMarkAtMost (plain_mark j) (plain_mark k)))
