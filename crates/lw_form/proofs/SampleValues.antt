-- The values of base forms where every input is false.
use Rattle.std.proofs.Common.{◌≡◌, ◌+◌, ◌*◌, ◌/◌, ◌%◌, ◌==◌, ◌<◌, ◌≤◌, ◌⊎◌, inl, inr, ℕ, zero, suc, Bool, false, not, ◌&&◌, if◌then◌else◌, List, [], ◌∷◌, ◌++◌, length, map, Some, slice_get, get_or, refl, ap, ap₂, sym, ◌∙◌, subst, arith, length-append}
use Rattle.std.specs.List.{list_all, AllByRecursion}
use Rattle.std.proofs.lemmas.List.{length-map}
use Rattle.std.proofs.lemmas.Option.{get_or_from_slice_get}
use Rattle.lw_facts.proofs.Lists.{get_left, get_last}
use Rattle.lw_laws.proofs.Flips.{flip_even}
use Rattle.lw_laws.specs.NumberedForms as laws
use Rattle.lw_laws.specs.NumberedForms.{NumberedForms, IsBefore}
use Rattle.lw_laws.specs.NumberedForms.Base.{base_true, base_input, base_and}
use Rattle.lw_laws.specs.NumberedValues.{AreNumberedValues, base_value}
use Rattle.lw_form.specs.declared.base.Base.{Base}
use Rattle.lw_form.specs.Bases.{plain_base}
use Rattle.lw_form.specs.Kept.{AreSamples}
use Rattle.lw_form.specs.Sampled.{sample_value, sample_base}
use Rattle.lw_form.specs.Tables.{AreBelow}

-- what is known of the samples so far
abbrev pub SampledSoFar : List laws.Base → ℕ → List Bool → Type 0
SampledSoFar bases i samples = (length samples ≡ i) × ((forms : NumberedForms) → forms.bases ≡ bases → (value : ℕ → Bool) → AreNumberedValues forms (λ k. false) value → (b : ℕ) → b < i → slice_get samples b ≡ Some (value (2 * b)))

module _ (samples : List Bool) (i : ℕ) (forms : NumberedForms) (value : ℕ → Bool) (values : AreNumberedValues forms (λ k. false) value) (known : (b : ℕ) → b < i → slice_get samples b ≡ Some (value (2 * b))) where
  sampled : (f : ℕ) → f / 2 < i → sample_value samples f ≡ value f
  sampled f lt = by_rest (f % 2) refl where
    read : get_or samples (f / 2) false ≡ value (2 * (f / 2))
    read = get_or_from_slice_get samples (f / 2) (value (2 * (f / 2))) false (known (f / 2) lt)

    by_rest : (k : ℕ) → f % 2 ≡ k → (if k == 0 then get_or samples (f / 2) false else not (get_or samples (f / 2) false)) ≡ value f
    by_rest zero e = let even : 2 * (f / 2) ≡ f = omega arith in read ∙ ap value even
    by_rest (suc zero) e = let odd : 2 * (f / 2) + 1 ≡ f = omega arith in ap not read ∙ (sym (values.flips (2 * (f / 2))) ∙ ap value (flip_even (2 * (f / 2)) (f / 2) refl ∙ odd))
    by_rest (suc (suc k)) e = absurd (omega arith)

  all_sampled : (fs : List ℕ) → AreBelow i fs → list_all (sample_value samples) fs ≡ list_all value fs
  all_sampled [] a = refl
  all_sampled (f ∷ fs) (p, a) = ap₂ (λ b c. b && c) (sampled f p) (all_sampled fs a)

  base_sampled : (base : laws.Base) → ((fs : List ℕ) → base ≡ base_and fs → AreBelow i fs) → sample_base samples base ≡ base_value (λ k. false) value base
  base_sampled base_true h = refl
  base_sampled (base_input k) h = refl
  base_sampled (base_and fs) h = all_sampled fs (h fs refl)

pub sampled_more : (bases : List laws.Base) (i : ℕ) (samples new : List Bool) (base : laws.Base) (sample : Bool) → slice_get bases i ≡ Some base → ((fs : List ℕ) → base ≡ base_and fs → AreBelow i fs) → sample ≡ sample_base samples base → new ≡ samples ++ sample ∷ [] → SampledSoFar bases i samples → SampledSoFar bases (i + 1) new
sampled_more bases i samples new base sample at before s grown (count, known) = subst (SampledSoFar bases (i + 1)) (sym grown) (let l = length-append samples (sample ∷ []) in omega arith, λ forms e value values b lt. place forms e value values b lt (below_or b i lt)) where
  below_or : (b i : ℕ) → b < i + 1 → (b < i) ⊎ (b ≡ i)
  below_or zero zero lt = inr refl
  below_or zero (suc i) lt = inl (omega arith)
  below_or (suc b) zero lt = absurd (omega arith)
  below_or (suc b) (suc i) lt = elim (below_or b i (omega arith)) [ inl l ↦ inl (omega arith) | inr e ↦ inr (ap suc e) ]

  place : (forms : NumberedForms) → forms.bases ≡ bases → (value : ℕ → Bool) → AreNumberedValues forms (λ k. false) value → (b : ℕ) → b < i + 1 → (b < i) ⊎ (b ≡ i) → slice_get (samples ++ sample ∷ []) b ≡ Some (value (2 * b))
  place forms e value values b lt (inl l) = get_left samples (sample ∷ []) b (value (2 * b)) (known forms e value values b l)
  place forms e value values b lt (inr same) =
      let here : b ≡ length samples = same ∙ sym count in
      let v : value (2 * i) ≡ base_value (λ k. false) value base = values.bases i base (ap (λ l. slice_get l i) e ∙ at) in
      ap (slice_get (samples ++ sample ∷ [])) here ∙ (get_last samples sample ∙ ap Some (s ∙ (base_sampled samples i forms value values (known forms e value values) base before ∙ (sym v ∙ ap (λ k. value (2 * k)) (sym same)))))

pub sampled_first : (bases : List laws.Base) (samples : List Bool) → samples ≡ [] → SampledSoFar bases 0 samples
sampled_first bases samples e = (ap length e, λ forms s value values b lt. absurd (omega arith))

pub sampled_done : (bases : List Base) (samples : List Bool) (i : ℕ) → length bases ≤ i → i ≤ length bases → SampledSoFar (map plain_base bases) i samples → (forms : NumberedForms) → forms.bases ≡ map plain_base bases → AreSamples forms samples
sampled_done bases samples i le ge (count, known) forms e = record {
  one_each = let a = ap length e in let l = length-map bases plain_base in omega arith;
  are = λ value values b lt. known forms e value values b (let a = ap length e in let l = length-map bases plain_base in omega arith);
}

pub before_below : (b : ℕ) (fs : List ℕ) → AllByRecursion (IsBefore b) fs → AreBelow b fs
before_below b [] a = tt
before_below b (f ∷ fs) (p, a) = (p, before_below b fs a)
