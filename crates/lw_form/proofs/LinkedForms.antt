-- A list of forms with one more pair of forms that have one value.
use Rattle.std.proofs.Common.{ℕ, zero, suc, ◌+◌, ◌*◌, ◌/◌, ◌<◌, ◌≤◌, ◌≡◌, ◌⊎◌, inl, inr, Bool, false, List, [], ◌∷◌, ◌++◌, length, Some, slice_get, refl, ap, ap₂, sym, ◌∙◌, subst, arith}
use Rattle.std.proofs.lemmas.List.{length_push}
use Rattle.lw_facts.proofs.Lists.{get_left}
use Rattle.lw_laws.specs.NumberedForms.{NumberedForms, NumberOccurs, IsListedAnd, AreNumberedForms, IsSignal}
use Rattle.lw_laws.specs.NumberedForms.Base.{base_and}
use Rattle.lw_laws.specs.NumberedValues.{AreNumberedValues}
use Rattle.lw_pool.specs.Numbers.{most_signals}
use Rattle.lw_form.specs.Kept.{AreForms, AreInOrder, AreNets, AreSamples}
use Rattle.lw_form.specs.Links.{HaveOneValue, with_pair}

-- a pair of a longer list is one of the list, or the new one
pub pair_cases : (xs ys : List ℕ) (f h s a b : ℕ) → length ys ≡ length xs → slice_get (xs ++ f ∷ []) s ≡ Some a → slice_get (ys ++ h ∷ []) s ≡ Some b → ((slice_get xs s ≡ Some a) × (slice_get ys s ≡ Some b)) ⊎ ((a ≡ f) × (b ≡ h))
pair_cases [] [] f h zero a b same e d = inr (cc, cc)
pair_cases [] [] f h (suc s) a b same e d = cc
pair_cases [] (y ∷ ys) f h s a b same e d = cc
pair_cases (x ∷ xs) [] f h s a b same e d = cc
pair_cases (x ∷ xs) (y ∷ ys) f h zero a b same e d = inl (e, d)
pair_cases (x ∷ xs) (y ∷ ys) f h (suc s) a b same e d = pair_cases xs ys f h s a b (let q : length ys ≡ length xs = omega (arith, same) in q) e d

module _ (forms : NumberedForms) (f h : ℕ) where
  abbrev more : NumberedForms
  more = with_pair forms f h

  -- values of the longer list are values of the list
  pub values_before : (x value : ℕ → Bool) → AreNumberedValues more x value → AreNumberedValues forms x value
  values_before x value are = record {
    flips = are.flips;
    bases = are.bases;
    signals = λ a b (s, e, d). are.signals a b (s, get_left forms.sops (f ∷ []) s a e, get_left forms.facs (h ∷ []) s b d);
  }

  pub samples_stay : (samples : List Bool) → AreSamples forms samples → AreSamples more samples
  samples_stay samples are = record {
    one_each = are.one_each;
    are = λ value values b lt. are.are value (values_before (λ i. false) value values) b lt;
  }

  module _ (kept : AreForms forms) (one : HaveOneValue forms f h) where
    cases : (a b : ℕ) → IsSignal more a b → IsSignal forms a b ⊎ ((a ≡ f) × (b ≡ h))
    cases a b (s, e, d) = by (pair_cases forms.sops forms.facs f h s a b kept.nets.one_each e d)
      where
        by : ((slice_get forms.sops s ≡ Some a) × (slice_get forms.facs s ≡ Some b)) ⊎ ((a ≡ f) × (b ≡ h)) → IsSignal forms a b ⊎ ((a ≡ f) × (b ≡ h))
        by (inl (p, q)) = inl (s, p, q)
        by (inr p) = inr p

    known : (a b : ℕ) → IsSignal more a b → NumberOccurs more a × NumberOccurs more b
    known a b is = by (cases a b is)
      where
        by : IsSignal forms a b ⊎ ((a ≡ f) × (b ≡ h)) → NumberOccurs more a × NumberOccurs more b
        by (inl before) = kept.numbered.signals a b before
        by (inr (p, q)) = (subst (λ n. n / 2 < length forms.bases) (sym p) one.left, subst (λ n. n / 2 < length forms.bases) (sym q) one.right)

    and_stays : (b : ℕ) (fs : List ℕ) → IsListedAnd forms b fs → IsListedAnd more b fs
    and_stays b fs is = record { two = is.two; operands = is.operands; parts = is.parts }

    numbered_stay : AreNumberedForms more
    numbered_stay = record {
      ands = λ b fs e. and_stays b fs (kept.numbered.ands b fs e);
      signals = known;
    }

    order_stays : AreInOrder more
    order_stays = let o = kept.in_order in record { first = o.first; inputs = o.inputs; later = o.later }

    nets_stay : length forms.sops < most_signals → AreNets more
    nets_stay room =
        let n = kept.nets in
        let p = length_push forms.sops f in
        let q = length_push forms.facs h in
        let same = n.one_each in
        let some = n.some in
        record {
          one_each = q ∙ (ap (λ k. k + 1) same ∙ sym p);
          few = let low : length forms.sops < most_signals = room in omega (arith, p, low);
          some = omega (arith, p, some);
          input_sops = λ i lt. get_left forms.sops (f ∷ []) i (2 * (i + 1)) (n.input_sops i lt);
          input_facs = λ i lt. get_left forms.facs (h ∷ []) i (2 * (i + 1)) (n.input_facs i lt);
        }

    values_stay : (x : ℕ → Bool) → (value : ℕ → Bool) × AreNumberedValues more x value
    values_stay x =
        let (value, are) = kept.values x in (
          value,
          record {
            flips = are.flips;
            bases = are.bases;
            signals = λ a b is. by value are a b (cases a b is);
          },
        )
      where
        by : (value : ℕ → Bool) → AreNumberedValues forms x value → (a b : ℕ) → IsSignal forms a b ⊎ ((a ≡ f) × (b ≡ h)) → value a ≡ value b
        by value are a b (inl before) = are.signals a b before
        by value are a b (inr (p, q)) = ap value p ∙ (one.always x value are ∙ ap value (sym q))

    pub forms_stay : length forms.sops < most_signals → AreForms more
    forms_stay room = record {
      numbered = numbered_stay;
      few = kept.few;
      once = kept.once;
      in_order = order_stays;
      operands = kept.operands;
      nets = nets_stay room;
      values = values_stay;
    }
