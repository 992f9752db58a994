-- A base form as plain data, and the parts of an And.
use Rattle.std.specs.Prelude.{ℕ, ◌/◌, ◌%◌, ◌≡◌, ◌≤◌, ◌==◌, if◌then◌else◌, List, [], ◌∷◌, length}
use Rattle.lw_laws.specs.NumberedForms as laws
use Rattle.lw_laws.specs.NumberedForms.Base.{base_true, base_input, base_and}
use Rattle.lw_form.specs.declared.base.Base.{Base}
use Rattle.lw_form.specs.declared.base.Base.TheVariants.{True, Input, And}

abbrev pub plain_base : Base → laws.Base
plain_base True = base_true
plain_base (Input i) = base_input i
plain_base (And ids) = base_and ids

-- the forms whose bits are set in the mask; the first form is the lowest bit
abbrev pub picked : List ℕ → ℕ → List ℕ
picked [] mask = []
picked (f ∷ fs) mask = if mask % 2 == 1 then f ∷ picked fs (mask / 2) else picked fs (mask / 2)

-- the numbers themselves, which are few
pub record AreFewIds (own given : List ℕ) : Type 0 where
  pub ids : given ≡ own
  pub few : length own ≤ 8

-- how many there are, which is few
pub record CountsIds (ids : List ℕ) (n : ℕ) : Type 0 where
  pub len : n ≡ length ids
  pub few : n ≤ 8
