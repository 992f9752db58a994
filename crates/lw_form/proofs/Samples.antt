-- Samples.
use Rattle.std.proofs.Common.{◌≡◌, ◌+◌, ◌*◌, ◌/◌, ◌%◌, ◌<◌, ℕ, Bool, false, not, List, length, get_or, refl, ap, sym, ◌∙◌, arith}
use Rattle.std.proofs.lemmas.Option.{get_or_from_slice_get}
use Rattle.lw_laws.proofs.Flips.{flip_even}
use Rattle.lw_laws.specs.NumberedForms.{NumberedForms}
use Rattle.lw_laws.specs.NumberedValues.{AreNumberedValues}
use Rattle.lw_form.specs.Kept.{AreSamples}

even_form : (f : ℕ) → f % 2 ≡ 0 → f ≡ 2 * (f / 2)
even_form f e = omega arith

odd_form : (f : ℕ) → (f % 2 ≡ 0 → ⊥) → f ≡ 2 * (f / 2) + 1
odd_form f ne = omega arith

sample_at : (forms : NumberedForms) (samples : List Bool) (value : ℕ → Bool) (b : ℕ) (read : Bool) → AreSamples forms samples → AreNumberedValues forms (λ i. false) value → b < length forms.bases → read ≡ get_or samples b read → read ≡ value (2 * b)
sample_at forms samples value b read are values below is = is ∙ get_or_from_slice_get samples b (value (2 * b)) read (are.are value values b below)

pub even_value : (forms : NumberedForms) (samples : List Bool) (f : ℕ) (read : Bool) → AreSamples forms samples → f / 2 < length forms.bases → read ≡ get_or samples (f / 2) read → f % 2 ≡ 0 → (value : ℕ → Bool) → AreNumberedValues forms (λ i. false) value → read ≡ value f
even_value forms samples f read are below is e value values = sample_at forms samples value (f / 2) read are values below is ∙ ap value (sym (even_form f e))

pub odd_value : (forms : NumberedForms) (samples : List Bool) (f : ℕ) (read : Bool) → AreSamples forms samples → f / 2 < length forms.bases → read ≡ get_or samples (f / 2) read → (f % 2 ≡ 0 → ⊥) → (value : ℕ → Bool) → AreNumberedValues forms (λ i. false) value → not read ≡ value f
odd_value forms samples f read are below is ne value values =
    ap not (sample_at forms samples value (f / 2) read are values below is) ∙ (sym (values.flips (2 * (f / 2))) ∙ ap value (flip_even (2 * (f / 2)) (f / 2) refl ∙ sym (odd_form f ne)))
