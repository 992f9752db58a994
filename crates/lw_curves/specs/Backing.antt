-- What gave each point its area, and when.
use Rattle.std.specs.Prelude.{ℕ, ◌+◌, ◌<◌, ◌≤◌, ◌≡◌, ◌⊎◌, min, List, map, Some, slice_get}
use Rattle.std.specs.List.{AllZip}
use Rattle.lw_laws.specs.Covers.{start_of, latest, delays_of}
use Rattle.lw_choices.specs.Areas.{most_area, area_at, total}
use Rattle.lw_choices.specs.Choices.{Part, Choice}
use Rattle.lw_choices.specs.Choices.Part.{input, gate}
use Rattle.lw_choices.specs.Tasks.{Task, timing}
use Rattle.lw_curves.specs.Settling.{Spot}

-- a point, the number of the choice that gave it its area last, and how many areas were gained before
pub record Held : Type 0 where
  pub spot : Spot
  pub choice : ℕ
  pub order : ℕ

abbrev pub IsHeld : List Held → Held → Type 0
IsHeld held h = (i : ℕ) × (slice_get held i ≡ Some h)

abbrev pub spot_in : Held → Spot
spot_in h = h.spot

-- no later; and earlier, or of less area, or of no more area and gained before
pub record IsBefore (l h : Held) : Type 0 where
  pub no_later : l.spot.time ≤ h.spot.time
  pub less : (l.spot.time < h.spot.time)
      ⊎ ((l.spot.area < h.spot.area) ⊎ ((l.spot.area ≤ h.spot.area) × (l.order < h.order)))

abbrev pub IsPinOf : List Held → Held → ℕ → Held → Type 0
IsPinOf held h p l = IsHeld held l × (l.spot.class ≡ p) × IsBefore l h

abbrev pub held_times : List Held → List ℕ
held_times ks = map (λ (l : Held). l.spot.time) ks

abbrev pub held_areas : List Held → List ℕ
held_areas ks = map (λ (l : Held). l.spot.area) ks

-- an input starts by the time of the point, or points of the pins before it give a cell its time and its area
abbrev pub IsGivenBy : Task → List Held → Held → Part → Type 0
IsGivenBy s held h (input i) = start_of (timing s).starts i ≤ h.spot.time
IsGivenBy s held h (gate cell ps) =
    (ks : List Held) × AllZip (IsPinOf held h) ps ks
    × (latest (delays_of (timing s).delays cell) (held_times ks) ≤ h.spot.time)
    × (min most_area (area_at s.cells cell + total (held_areas ks)) ≤ h.spot.area)

-- the choice stands at the class of the point, and gives it its time and its area
pub record IsBacked (s : Task) (choices : List Choice) (held : List Held) (h : Held) : Type 0 where
  pub by : Choice
  pub listed : slice_get choices h.choice ≡ Some by
  pub class_is : by.class ≡ h.spot.class
  pub given : IsGivenBy s held h by.part

abbrev pub AreBacked : Task → List Choice → List Held → Type 0
AreBacked s choices held = (h : Held) → IsHeld held h → IsBacked s choices held h

-- a point was gained after all others, in place of one of the same class and time and of more area if there was one
pub record IsHeldGained (old new : List Held) (h : Held) : Type 0 where
  pub has : IsHeld new h
  pub only : (l : Held) → IsHeld new l → IsHeld old l ⊎ (l ≡ h)
  pub kept : (l : Held) → IsHeld old l → IsHeld new l ⊎
      ((l.spot.class ≡ h.spot.class) × (l.spot.time ≡ h.spot.time) × (h.spot.area < l.spot.area))
  pub fresh : (l : Held) → IsHeld old l → l.order < h.order
