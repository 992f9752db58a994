-- What is kept while classes are settled.
use Rattle.std.specs.Prelude.{ℕ, zero, suc, ◌+◌, ◌-◌, ◌^◌, ◌<◌, ◌≤◌, ◌≡◌, ◌≢◌, ◌⊎◌, ◌==◌, if◌then◌else◌, is_some, List}
use Rattle.std.specs.Prelude.{[], ◌∷◌, length, drop, Option, Some, None, slice_get, slice_index}
use Rattle.lw_laws.specs.Graphs.{Graph}
use Rattle.lw_laws.specs.Costs.{Cost}
use Rattle.lw_laws.specs.Marks.{Mark as PlainMark, Marks, HaveMarks, IsMarkAtMost, leaf_mark, price}
use Rattle.lw_cost.specs.declared.mark.Mark.{Mark}
use Rattle.lw_cost.specs.Values.{marks_in}
use Rattle.lw_cost.specs.Labels.{marked}
use Rattle.lw_settle.specs.Queues.{AreNone}
use Rattle.lw_settle.specs.Stores.{Stored, StoreState, Placed, placed, pins_of, times, uses_of, AreOfStoredCells}
use Rattle.lw_settle.specs.Stores.{HasMarkedPins, IsReadOnce}

-- the mark is that of an input at the class, or of a match there by the marks of its pins
abbrev pub IsOffered : Graph → Cost → List Placed → Marks → ℕ → PlainMark → Type 0
IsOffered g cost ms taken c k =
    ((i : ℕ) × (slice_get g.leaves i ≡ Some c) × (k ≡ leaf_mark cost i))
    ⊎ ((i : ℕ) × (m : Placed) × (ks : List PlainMark) × (slice_get ms i ≡ Some m) × (m.class ≡ c)
    × HaveMarks taken (pins_of m) ks × (k ≡ price cost m.stored.cell ks))

-- the class is taken or waits, with such a mark at most
abbrev pub HasAtMost : Marks → Marks → ℕ → PlainMark → Type 0
HasAtMost taken wait c k =
    (j : PlainMark) × ((taken c ≡ Some j) ⊎ (wait c ≡ Some j)) × IsMarkAtMost j k

-- the marks of classes that are taken and of those that wait: all come from inputs and matches, and none that waits is
-- before one that is taken
pub record IsSound (g : Graph) (cost : Cost) (ms : List Placed) (top : PlainMark) (count : ℕ)
    (taken wait : Marks) : Type 0 where
  pub apart : (c : ℕ) (k : PlainMark) → taken c ≡ Some k → wait c ≡ None
  pub taken_by : (c : ℕ) (k : PlainMark) → taken c ≡ Some k → IsOffered g cost ms taken c k
  pub wait_by : (c : ℕ) (k : PlainMark) → wait c ≡ Some k → IsOffered g cost ms taken c k
  pub low : (c : ℕ) (k : PlainMark) → taken c ≡ Some k → IsMarkAtMost k top
  pub high : (c : ℕ) (k : PlainMark) → wait c ≡ Some k → IsMarkAtMost top k
  pub taken_fits : (c : ℕ) (k : PlainMark) → taken c ≡ Some k → (k.cost ≤ cost.cap) × (k.height ≤ count)
  pub wait_fits : (c : ℕ) (k : PlainMark) → wait c ≡ Some k → (k.cost ≤ cost.cap) × (k.height ≤ suc count)

-- how many of the pins are not taken
abbrev pub untaken : Marks → List ℕ → ℕ
untaken taken [] = 0
untaken taken (p ∷ ps) = if is_some (taken p) then untaken taken ps else suc (untaken taken ps)

-- For each match it is known how many of its pins are left: those that are not taken, and those with uses still unread.
-- The first inputs, and those of the first matches that have no pin left, have given their classes their marks.
pub record IsCovered (g : Graph) (cost : Cost) (ms : List Placed) (inputs seen : ℕ) (unread : List ℕ)
    (taken wait : Marks) (left : List ℕ) : Type 0 where
  pub left_is : (i : ℕ) (m : Placed) → slice_get ms i ≡ Some m
      → slice_index left i ≡ untaken taken (pins_of m) + times i unread
  pub matches : (i : ℕ) (m : Placed) (ks : List PlainMark) → i < seen → slice_get ms i ≡ Some m → slice_index left i ≡ 0
      → HaveMarks taken (pins_of m) ks → HasAtMost taken wait m.class (price cost m.stored.cell ks)
  pub leaves : (i c : ℕ) → i < inputs → slice_get g.leaves i ≡ Some c → HasAtMost taken wait c (leaf_mark cost i)

-- how many pins are not left
abbrev pub used : List Placed → List ℕ → ℕ
used [] ls = 0
used (m ∷ ms) [] = 0
used (m ∷ ms) (l ∷ ls) = (length (pins_of m) - l) + used ms ls

-- how many of the first matches have no pin left
abbrev pub zeros : ℕ → List ℕ → ℕ
zeros n [] = 0
zeros zero (l ∷ ls) = 0
zeros (suc n) (l ∷ ls) = (if l == 0 then 1 else 0) + zeros n ls

-- a match was read for each pin that is not left, and once where none is left
pub record IsCounted (ms : List Placed) (seen start done : ℕ) (left : List ℕ) : Type 0 where
  pub one_each : length left ≡ length ms
  pub most : (i : ℕ) (m : Placed) → slice_get ms i ≡ Some m → slice_index left i ≤ length (pins_of m)
  pub sum : done ≡ start + (used ms left + zeros seen left)

-- the graph, how often matches had been read before, and the mark taken last
pub record Stage : Type 0 where
  pub graph : Graph
  pub start : ℕ
  pub top : PlainMark

-- before a class is taken
abbrev pub first_stage : Graph → ℕ → Stage
first_stage g start = record { graph = g; start = start; top = record { cost = 0; height = 0 } }

-- the marks of the classes that are taken and of those that wait, and how many pins are left of each match
pub record IsSettling (cost : Cost) (lists : List (List Stored)) (s : Stage) (inputs seen : ℕ) (unread : List ℕ)
    (done : ℕ) (marks wait : List (Option Mark)) (left : List ℕ) : Type 0 where
  pub one_each : length lists ≡ length s.graph.pairs
  pub few : length lists < 2 ^ 32 - 1
  pub fresh : s.start < 2 ^ 62
  pub one_mark : length marks ≡ length lists
  pub one_wait : length wait ≡ length lists
  pub sound : IsSound s.graph cost (placed lists) s.top (marked marks) (marks_in marks) (marks_in wait)
  pub covered : IsCovered s.graph cost (placed lists) inputs seen unread (marks_in marks) (marks_in wait) left
  pub counted : IsCounted (placed lists) seen s.start done left

-- the marks, and how many pins are left, once all inputs and all matches without pins have given their classes marks
abbrev pub IsReading : Cost → List (List Stored) → Stage → List ℕ → ℕ → List (Option Mark) → List (Option Mark) → List ℕ
    → Type 0
IsReading cost lists s unread done marks wait left =
    IsSettling cost lists s (length s.graph.leaves) (length (placed lists)) unread done marks wait left

-- the mark is offered to the class: one that is taken keeps its own, and one that waits the lesser
pub record IsOffering (taken wait wait' : Marks) (c : ℕ) (k : PlainMark) : Type 0 where
  pub closed : (j : PlainMark) → taken c ≡ Some j → wait' c ≡ wait c
  pub others : (d : ℕ) → d ≢ c → wait' d ≡ wait d
  pub at : taken c ≡ None → ((wait' c ≡ Some k) × ((j : PlainMark) → wait c ≡ Some j → IsMarkAtMost k j))
      ⊎ ((j : PlainMark) × (wait c ≡ Some j) × (wait' c ≡ Some j) × IsMarkAtMost j k)

-- a match whose pins are taken is offered to its class at its price
pub record IsMatchOffered (cost : Cost) (ms : List Placed) (place : ℕ) (taken wait wait' : Marks) : Type 0 where
  pub at : Placed
  pub listed : slice_get ms place ≡ Some at
  pub pin_marks : List PlainMark
  pub have : HaveMarks taken (pins_of at) pin_marks
  pub offering : IsOffering taken wait wait' at.class (price cost at.stored.cell pin_marks)

-- no cost is above the cap, and no height above the number of marks
abbrev pub AreLow : ℕ → List (Option Mark) → Type 0
AreLow cap marks =
    (c : ℕ) (k : PlainMark) → marks_in marks c ≡ Some k → (k.cost ≤ cap) × (k.height ≤ marked marks)

-- a mark may be offered to the class
pub record MayOffer (marks wait : List (Option Mark)) (c : ℕ) (k : Mark) : Type 0 where
  pub class : c < length marks
  pub one_each : length wait ≡ length marks
  pub few : length marks < 2 ^ 32 - 1
  pub height : k.height ≤ marked marks + 1

-- the match may be priced by the marks of its pins, and offered to its class
pub record MayPrice (cost : Cost) (store : StoreState) (place : ℕ) (marks wait : List (Option Mark)) : Type 0 where
  pub listed : place < length (placed store.lists)
  pub of_cells : AreOfStoredCells cost.pin_counts store.lists
  pub one_mark : length marks ≡ length store.lists
  pub one_wait : length wait ≡ length store.lists
  pub few : length marks < 2 ^ 32 - 1
  pub low : AreLow cost.cap marks
  pub pins_marked : HasMarkedPins store.lists (marks_in marks) place
  pub fresh : store.done < 2 ^ 63

-- the match was read once, and offered to its class at its price
pub record HasPriced (cost : Cost) (old new : StoreState) (place : ℕ)
    (marks wait wait' : List (Option Mark)) : Type 0 where
  pub offered : IsMatchOffered cost (placed old.lists) place (marks_in marks) (marks_in wait) (marks_in wait')
  pub one_wait : length wait' ≡ length wait
  pub read : IsReadOnce old new

-- while the uses of a class that was taken last are read, the first n of which have been
pub record IsReadingOf (cost : Cost) (lists : List (List Stored)) (s : Stage) (class n : ℕ) (done : ℕ)
    (marks wait : List (Option Mark)) (left : List ℕ) : Type 0 where
  pub taken : marks_in marks class ≡ Some s.top
  pub reading : IsReading cost lists s (drop n (uses_of lists class)) done marks wait left

-- the uses of the class may be read from the n-th on, in some stage
pub record MayRead (cost : Cost) (store : StoreState) (c n : ℕ) (marks wait : List (Option Mark))
    (left : List ℕ) : Type 0 where
  pub class : c < length store.lists
  pub of_cells : AreOfStoredCells cost.pin_counts store.lists
  pub reading : (s : Stage) × IsReadingOf cost store.lists s c n store.done marks wait left

-- the uses of the class have been read from the n-th to the m-th, in whichever stage
pub record HasRead (cost : Cost) (old new : StoreState) (c n m : ℕ) (marks wait wait' : List (Option Mark))
    (left left' : List ℕ) : Type 0 where
  pub lists : new.lists ≡ old.lists
  pub reading : (s : Stage) → IsReadingOf cost old.lists s c n old.done marks wait left
      → IsReadingOf cost old.lists s c m new.done marks wait' left'

-- between two classes, whichever was taken last
pub record IsReadingSome (cost : Cost) (lists : List (List Stored)) (g : Graph) (start done : ℕ)
    (marks wait : List (Option Mark)) (left : List ℕ) : Type 0 where
  pub top : PlainMark
  pub reading : IsReading cost lists (record { graph = g; start = start; top = top }) [] done marks wait left

-- the classes that waited have been taken, and those that came to wait, in whichever stage
pub record AreAllTaken (cost : Cost) (old new : StoreState) (marks marks' wait wait' : List (Option Mark))
    (left left' : List ℕ) : Type 0 where
  pub lists : new.lists ≡ old.lists
  pub none : AreNone wait'
  pub reading : (s : Stage) → IsReading cost old.lists s [] old.done marks wait left
      → IsReadingSome cost old.lists s.graph s.start new.done marks' wait' left'

-- the first inputs have given their classes their marks, and no class waits with another one
pub record AreInputsOffered (g : Graph) (cost : Cost) (inputs : ℕ) (wait : List (Option Mark)) : Type 0 where
  pub one_each : length wait ≡ length g.pairs
  pub from : (c : ℕ) (k : PlainMark) → marks_in wait c ≡ Some k
      → (i : ℕ) × (slice_get g.leaves i ≡ Some c) × (k ≡ leaf_mark cost i)
  pub leaves : (i c : ℕ) → i < inputs → slice_get g.leaves i ≡ Some c
      → (j : PlainMark) × (marks_in wait c ≡ Some j) × IsMarkAtMost j (leaf_mark cost i)

abbrev pub pin_count : Placed → ℕ
pin_count m = length (pins_of m)

-- all inputs have given their classes their marks, and no match has
abbrev pub IsBegun : Cost → StoreState → Graph → ℕ → List (Option Mark) → List (Option Mark) → List ℕ → Type 0
IsBegun cost store g start marks wait left =
    IsSettling cost store.lists (first_stage g start) (length g.leaves) 0 [] store.done marks wait left

-- the matches without pins may be offered, in some graph
pub record MayOfferPinless (cost : Cost) (store : StoreState) (marks wait : List (Option Mark))
    (left : List ℕ) : Type 0 where
  pub of_cells : AreOfStoredCells cost.pin_counts store.lists
  pub settling : (g : Graph) × (start : ℕ) × IsBegun cost store g start marks wait left

-- they have been, in whichever graph
pub record HasOfferedPinless (cost : Cost) (old new : StoreState) (marks wait wait' : List (Option Mark))
    (left : List ℕ) : Type 0 where
  pub lists : new.lists ≡ old.lists
  pub reading : (g : Graph) (start : ℕ) → IsBegun cost old g start marks wait left
      → IsReading cost old.lists (first_stage g start) [] new.done marks wait' left

-- the classes that wait may be taken, in some stage
pub record MayTakeAll (cost : Cost) (store : StoreState) (marks wait : List (Option Mark))
    (left : List ℕ) : Type 0 where
  pub of_cells : AreOfStoredCells cost.pin_counts store.lists
  pub reading : (s : Stage) × IsReading cost store.lists s [] store.done marks wait left
