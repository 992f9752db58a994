-- Marks by the matches of a store alone: the least costs of covers made of stored matches, heights, and how often
-- matches are read.
use Rattle.std.specs.Prelude.{ℕ, suc, ◌+◌, ◌^◌, ◌<◌, ◌≡◌, ◌==◌, if◌then◌else◌, is_some, List, [], ◌∷◌, length}
use Rattle.std.specs.Prelude.{replicate, Option, Some, None, slice_get}
use Rattle.lw_laws.specs.Graphs.{Graph}
use Rattle.lw_laws.specs.Costs.{Cost}
use Rattle.lw_laws.specs.Choices.{Choices, Labels, IsLeastCost, IsHeight}
use Rattle.lw_laws.specs.Marks.{Mark as PlainMark}
use Rattle.lw_laws.specs.Rounds.{labels_in}
use Rattle.lw_cost.specs.declared.mark.Mark.{Mark}
use Rattle.lw_cost.specs.Values.{marks_in, AreInRange}
use Rattle.lw_cost.specs.Labels.{costs_of}
use Rattle.lw_settle.specs.Stores.{Stored, StoreState, Placed, placed, pins_of, AreOfStoredCells}

-- a match that is stored at the class, of this cell and with these classes as its pins
abbrev pub IsStoredMatch : List Placed → ℕ → ℕ → List ℕ → Type 0
IsStoredMatch ms c cell ps =
    (i : ℕ) × (m : Placed) × (slice_get ms i ≡ Some m) × (m.class ≡ c) × (m.stored.cell ≡ cell) × (pins_of m ≡ ps)

abbrev pub choices_among : Graph → List Placed → Choices
choices_among g ms = record {
  IsInput = λ c i. slice_get g.leaves i ≡ Some c;
  IsMatch = λ c cell ps. IsStoredMatch ms c cell ps;
}

-- what covers are made of: inputs at their classes, and stored matches at theirs
abbrev pub store_choices : Graph → List (List Stored) → Choices
store_choices g lists = choices_among g (placed lists)

-- Each class has a mark where it has a cover of stored matches: the least cost of these covers, and its height.
pub record AreSettledMarks (g : Graph) (cost : Cost) (lists : List (List Stored))
    (marks : List (Option Mark)) : Type 0 where
  pub one_each : length marks ≡ length g.pairs
  pub least : (c : ℕ) → IsLeastCost (store_choices g lists) cost c (labels_in (costs_of marks) c)
  pub heights : (c : ℕ) (m : PlainMark) → marks_in marks c ≡ Some m
      → IsHeight (store_choices g lists) cost (labels_in (costs_of marks)) c m.height
  -- no cost above the cap, and heights that can rise by one
  pub in_range : AreInRange cost.cap marks

-- no cover of an input's class costs less than the input
abbrev pub HaveLeafCosts : Graph → Cost → List (List Stored) → Type 0
HaveLeafCosts g cost lists =
    (i c : ℕ) → slice_get g.leaves i ≡ Some c → IsLeastCost (store_choices g lists) cost c (Some (cost.leaf i))

-- a store of matches of the cost's cells, at the classes of the graph, which was not read too often
pub record MaySettle (g : Graph) (cost : Cost) (store : StoreState) : Type 0 where
  pub of_cells : AreOfStoredCells cost.pin_counts store.lists
  pub one_each : length store.lists ≡ length g.pairs
  pub leaves : HaveLeafCosts g cost store.lists
  pub fresh : store.done < 2 ^ 62

-- no class has a mark or waits, and there is a number for each match
pub record AreUnsettled (g : Graph) (store : StoreState) (marks wait : List (Option Mark))
    (left : List ℕ) : Type 0 where
  pub none_marked : marks ≡ replicate (length g.pairs) None
  pub none_waits : wait ≡ replicate (length g.pairs) None
  pub one_number : length left ≡ length (placed store.lists)

-- how many of the classes have a label
abbrev pub labelled : Labels → List ℕ → ℕ
labelled labels [] = 0
labelled labels (p ∷ ps) = if is_some (labels p) then suc (labelled labels ps) else labelled labels ps

-- the uses of labelled classes: a match with a pin of it whose class has a label
abbrev pub labelled_uses : Labels → List Placed → ℕ
labelled_uses labels [] = 0
labelled_uses labels (m ∷ ms) = labelled labels (pins_of m) + labelled_uses labels ms

-- the matches whose pins all have labels
abbrev pub labelled_matches : Labels → List Placed → ℕ
labelled_matches labels [] = 0
labelled_matches labels (m ∷ ms) =
    (if labelled labels (pins_of m) == length (pins_of m) then 1 else 0) + labelled_matches labels ms

-- how often settling reads a match: once for each use of a labelled class, and once to price it where its pins all have
-- labels
abbrev pub settle_steps : Labels → List (List Stored) → ℕ
settle_steps labels lists = labelled_uses labels (placed lists) + labelled_matches labels (placed lists)

-- the marks by the store's matches, which were read as often as settling does
pub record IsSettledBy (g : Graph) (cost : Cost) (old new : StoreState) (marks : List (Option Mark)) : Type 0 where
  pub settled : AreSettledMarks g cost old.lists marks
  pub lists : new.lists ≡ old.lists
  pub done : new.done ≡ old.done + settle_steps (labels_in (costs_of marks)) old.lists
