-- What a list of occurring forms keeps, over the numbers of forms.
use Rattle.std.specs.Prelude.{ℕ, ◌+◌, ◌*◌, ◌/◌, ◌^◌, ◌<◌, ◌≤◌, ◌≡◌, ◌≢◌, Bool, false, List, [], ◌∷◌, map, length, Some}
use Rattle.std.specs.Prelude.{slice_get}
use Rattle.std.specs.List.{AllByRecursion}
use Rattle.lw_pool.specs.Numbers.{most_signals}
use Rattle.lw_laws.specs.NumberedForms.{Base, NumberedForms, AreNumberedForms}
use Rattle.lw_laws.specs.NumberedForms.Base.{base_true, base_input, base_and}
use Rattle.lw_laws.specs.NumberedValues.{AreNumberedValues}
use Rattle.lw_form.specs.Limits.{most_bases, most_operands}

-- no form is true or its complement, and no two are equal or complements
abbrev pub AreApart : List ℕ → Type 0
AreApart [] = Unit {0}
AreApart (f ∷ fs) = (0 < f / 2) × AllByRecursion (λ h. f / 2 ≢ h / 2) fs × AreApart fs

pub record AreAndOperands (fs : List ℕ) : Type 0 where
  pub two : 2 ≤ length fs
  pub few : length fs ≤ most_operands
  pub apart : AreApart fs

-- True is listed first, then the inputs in order, then Ands alone.
pub record AreInOrder (forms : NumberedForms) : Type 0 where
  pub first : slice_get forms.bases 0 ≡ Some base_true
  pub inputs : (i : ℕ) → i < forms.inputs → slice_get forms.bases (i + 1) ≡ Some (base_input i)
  pub later : (b : ℕ) → forms.inputs < b → b < length forms.bases
      → (fs : List ℕ) × (slice_get forms.bases b ≡ Some (base_and fs))

-- The nets come with two forms each, and those of an input are the input.
pub record AreNets (forms : NumberedForms) : Type 0 where
  pub one_each : length forms.facs ≡ length forms.sops
  pub few : length forms.sops ≤ most_signals
  pub some : forms.inputs ≤ length forms.sops
  pub input_sops : (i : ℕ) → i < forms.inputs → slice_get forms.sops i ≡ Some (2 * (i + 1))
  pub input_facs : (i : ℕ) → i < forms.inputs → slice_get forms.facs i ≡ Some (2 * (i + 1))

-- The operands of a listed And are listed before it, and so is the And of each of its parts; the base forms differ;
-- both forms of each net are listed, and have one value.
pub record AreForms (forms : NumberedForms) : Type 0 where
  pub numbered : AreNumberedForms forms
  pub few : length forms.bases ≤ most_bases
  pub once : (a b : ℕ) (base : Base) → slice_get forms.bases a ≡ Some base → slice_get forms.bases b ≡ Some base → a ≡ b
  pub in_order : AreInOrder forms
  pub operands : (b : ℕ) (fs : List ℕ) → slice_get forms.bases b ≡ Some (base_and fs) → AreAndOperands fs
  pub nets : AreNets forms
  pub values : (x : ℕ → Bool) → (value : ℕ → Bool) × AreNumberedValues forms x value

-- The values of forms, with which both forms of each net have the net's.
pub record HaveValues (forms : NumberedForms) (x : ℕ → Bool) (values : List Bool) : Type 0 where
  pub value : ℕ → Bool
  pub are : AreNumberedValues forms x value
  pub sops : map value forms.sops ≡ values
  pub facs : map value forms.facs ≡ values

-- these are the values of the base forms where every input is false
pub record AreSamples (forms : NumberedForms) (samples : List Bool) : Type 0 where
  pub one_each : length samples ≡ length forms.bases
  pub are : (value : ℕ → Bool) → AreNumberedValues forms (λ i. false) value → (b : ℕ) → b < length forms.bases
      → slice_get samples b ≡ Some (value (2 * b))

-- the base form is an And, and the mask names some of its operands
abbrev pub HasPart : NumberedForms → ℕ → ℕ → Type 0
HasPart forms b mask =
    (fs : List ℕ) × (slice_get forms.bases b ≡ Some (base_and fs)) × (1 ≤ mask) × (mask < 2 ^ length fs)

-- how many inputs there are, and what the list keeps
pub record CountsInputs (forms : NumberedForms) (n : ℕ) : Type 0 where
  pub inputs : n ≡ forms.inputs
  pub kept : AreForms forms
