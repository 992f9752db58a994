-- Truth values of listed forms.
use Rattle.std.specs.Prelude.{ℕ, ◌*◌, ◌≡◌, Bool, true, not, Some, slice_get}
use Rattle.std.specs.List.{list_all}
use Rattle.lw_laws.specs.Flip.{flip}
use Rattle.lw_laws.specs.NumberedForms.{Base, NumberedForms, IsSignal}
use Rattle.lw_laws.specs.NumberedForms.Base.{base_true, base_input, base_and}

-- the value of a base form, by those of forms
abbrev pub base_value : (ℕ → Bool) → (ℕ → Bool) → Base → Bool
base_value x value base_true = true
base_value x value (base_input i) = x i
base_value x value (base_and fs) = list_all value fs

-- these are the values of the listed forms, where the inputs have the values x
pub record AreNumberedValues (forms : NumberedForms) (x value : ℕ → Bool) : Type 0 where
  pub flips : (f : ℕ) → value (flip f) ≡ not (value f)
  pub bases : (b : ℕ) (base : Base) → slice_get forms.bases b ≡ Some base → value (2 * b) ≡ base_value x value base
  pub signals : (f h : ℕ) → IsSignal forms f h → value f ≡ value h
