-- What is known of each choice while points are found: no more than its area by what the groups of its pins have seen.
use Rattle.std.specs.Prelude.{ℕ, ◌+◌, ◌-◌, ◌*◌, ◌^◌, ◌<◌, ◌≤◌, ◌≡◌, ◌≢◌, ◌⊎◌, min, List, length, Some, slice_get}
use Rattle.std.specs.Prelude.{slice_index_or}
use Rattle.lw_genlib.specs.Cells.{CellParts}
use Rattle.lw_curves.specs.declared.seen_areas.Seen.{Seen}
use Rattle.lw_curves.specs.declared.tallies.Tally.{Tally}
use Rattle.lw_choices.specs.declared.pin_groups.PinGroups.{PinGroups}
use Rattle.lw_choices.specs.Areas.{area_at, most_area}
use Rattle.lw_choices.specs.Choices.{Part, Choice, pin_count}
use Rattle.lw_choices.specs.Choices.Part.{input, gate}
use Rattle.lw_curves.specs.SeenAreas.{sum_seen}

-- what stands for a group that has seen no point: more than a cell and 16 pins have together that have seen some
abbrev pub unseen : ℕ
unseen = 2 ^ 67

-- the bound that the two parts of a tally make
abbrev pub bound_of : Tally → ℕ
bound_of t = t.high * 2 ^ 64 + t.low

-- that bound, which is below 2^96
pub record IsBoundOf (t : Tally) (n : ℕ) : Type 0 where
  pub value : n ≡ bound_of t
  pub small : n < 2 ^ 96

-- the area of its cell, as far as it is told
abbrev pub own_area : List CellParts → Part → ℕ
own_area cells (input i) = 0
own_area cells (gate cell ps) = min most_area (area_at cells cell)

-- the tally of a choice whose groups have seen nothing
pub record IsFirstTally (cells : List CellParts) (x : Choice) (t : Tally) : Type 0 where
  pub class_is : t.class.0 ≡ x.class
  pub few : pin_count x.part ≤ 16
  pub bound_is : bound_of t ≡ own_area cells x.part + pin_count x.part * unseen

pub record AreFirstTallies (cells : List CellParts) (choices : List Choice) (tallies : List Tally) : Type 0 where
  pub one_each : length tallies ≡ length choices
  pub each : (n : ℕ) (x : Choice) (t : Tally) → slice_get choices n ≡ Some x → slice_get tallies n ≡ Some t
      → IsFirstTally cells x t

-- the place of the first pin of a choice
abbrev pub first_of : PinGroups → ℕ → ℕ
first_of u n = slice_index_or u.firsts.items n 0

-- no more than the area of the choice's cell and what the groups of its pins have seen together
pub record IsTally (cells : List CellParts) (u : PinGroups) (seen : List ℕ) (n : ℕ) (x : Choice)
    (t : Tally) : Type 0 where
  pub class_is : t.class.0 ≡ x.class
  pub few : pin_count x.part ≤ 16
  pub low : bound_of t ≤ own_area cells x.part + sum_seen u.members.classes seen (first_of u n) (pin_count x.part)

pub record AreTallies (cells : List CellParts) (choices : List Choice) (u : PinGroups) (seen : List ℕ)
    (tallies : List Tally) : Type 0 where
  pub one_each : length tallies ≡ length choices
  pub each : (n : ℕ) (x : Choice) (t : Tally) → slice_get choices n ≡ Some x → slice_get tallies n ≡ Some t
      → IsTally cells u seen n x t

-- the bound of a choice falls, if it has a tally
pub record IsLowered (old new : List Tally) (number fall : ℕ) : Type 0 where
  pub one_each : length new ≡ length old
  pub each : (n : ℕ) (t : Tally) → slice_get new n ≡ Some t
      → ((n ≡ number) × (o : Tally) × (slice_get old n ≡ Some o) × (t.class.0 ≡ o.class.0)
      × (bound_of t ≤ bound_of o - fall)) ⊎ ((n ≢ number) × (slice_get old n ≡ Some t))

-- what the group has seen falls by this much at most, and what others have does not
pub record HasFallen (group fall : ℕ) (seen fallen : List ℕ) : Type 0 where
  pub here : slice_index_or seen group 0 ≤ slice_index_or fallen group 0 + fall
  pub others : (g : ℕ) → g ≢ group → slice_index_or seen g 0 ≤ slice_index_or fallen g 0

-- an area for each group, and a tally for each choice
pub record AreTallied (cells : List CellParts) (choices : List Choice) (u : PinGroups) (seen : Seen) : Type 0 where
  pub one_each : length seen.areas.items ≡ u.members.count
  pub tallies : AreTallies cells choices u seen.areas.items seen.tallies.items
