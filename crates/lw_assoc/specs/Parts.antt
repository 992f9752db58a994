-- The parts of an And by their masks, and the Ands without one operand that they are found by.
use Rattle.std.specs.Prelude.{ℕ, zero, suc, ◌+◌, ◌*◌, ◌/◌, ◌%◌, ◌^◌, ◌<◌, ◌≤◌, ◌≡◌, List, [], ◌∷◌, length, Some}
use Rattle.std.specs.Prelude.{slice_get, slice_index}
use Rattle.lw_laws.specs.NumberedForms.{NumberedForms, IsPart}
use Rattle.lw_laws.specs.NumberedForms.Base.{base_and}
use Rattle.lw_form.specs.Bases.{picked}
use Rattle.lw_form.specs.Kept.{HasPart}

-- the operands but the one at the place
abbrev pub without : List ℕ → ℕ → List ℕ
without [] place = []
without (f ∷ fs) zero = fs
without (f ∷ fs) (suc place) = f ∷ without fs place

-- the bit at the place is not set, and those below it are
abbrev pub IsFirstUnset : ℕ → ℕ → Type 0
IsFirstUnset mask zero = mask % 2 ≡ 0
IsFirstUnset mask (suc place) = (mask % 2 ≡ 1) × IsFirstUnset (mask / 2) place

-- a table with eight places for each base form has the Ands of all operands but one of the first n
pub record HasDrops (forms : NumberedForms) (n : ℕ) (drops : List ℕ) : Type 0 where
  pub size : length drops ≡ 8 * length forms.bases
  pub each : (a : ℕ) (fs : List ℕ) (place : ℕ) → a < n → slice_get forms.bases a ≡ Some (base_and fs)
      → place < length fs → IsPart forms (without fs place) (slice_index drops (8 * a + place))

-- a table by masks has the parts of base form b, if that is an And, from a lowest mask on
pub record HasParts (forms : NumberedForms) (b low : ℕ) (parts : List ℕ) : Type 0 where
  pub within : b < length forms.bases
  pub size : length parts ≡ 256
  pub each : (fs : List ℕ) (mask : ℕ) → slice_get forms.bases b ≡ Some (base_and fs) → low ≤ mask → mask < 2 ^ length fs
      → IsPart forms (picked fs mask) (slice_index parts mask)

-- all drops are there, the parts of higher masks, and one of the next mask
pub record CanPutPart (forms : NumberedForms) (drops : List ℕ) (b mask : ℕ) (parts : List ℕ) : Type 0 where
  pub has : HasPart forms b (mask + 1)
  pub some : 1 ≤ mask
  pub drops_all : HasDrops forms (length forms.bases) drops
  pub higher : HasParts forms b (mask + 1) parts
