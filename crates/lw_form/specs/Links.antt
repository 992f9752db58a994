-- Further pairs of listed forms that have one value.
use Rattle.std.specs.Prelude.{ℕ, ◌≡◌, Bool, [], ◌∷◌, ◌++◌}
use Rattle.lw_laws.specs.NumberedForms.{NumberedForms, NumberOccurs}
use Rattle.lw_laws.specs.NumberedValues.{AreNumberedValues}

-- Two listed forms have one value, whatever the values of the inputs are.
pub record HaveOneValue (forms : NumberedForms) (f h : ℕ) : Type 0 where
  pub left : NumberOccurs forms f
  pub right : NumberOccurs forms h
  pub always : (x value : ℕ → Bool) → AreNumberedValues forms x value → value f ≡ value h

-- the listing with one more pair
abbrev pub with_pair : NumberedForms → ℕ → ℕ → NumberedForms
with_pair forms f h =
    record { inputs = forms.inputs; bases = forms.bases; sops = forms.sops ++ f ∷ []; facs = forms.facs ++ h ∷ [] }
