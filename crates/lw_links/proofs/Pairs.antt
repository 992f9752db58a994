-- Lists of forms with further pairs.
use Rattle.std.proofs.Common.{ℕ, ◌+◌, ◌*◌, ◌/◌, ◌%◌, ◌<◌, ◌≡◌, ◌⊎◌, inl, inr, Bool, List, [], ◌∷◌, ◌++◌, length, Some, slice_get, Result, Ok, Err, MatchResult, OnOk, refl, ap, sym, ◌∙◌, subst, append_assoc}
use Rattle.std.proofs.lemmas.List.{append-nil, length-append}
use Rattle.std.proofs.lemmas.Option.{none-some}
use Rattle.lw_facts.proofs.Lists.{get_left}
use Rattle.lw_aig.specs.declared.literal.Literal.{Literal}
use Rattle.lw_laws.specs.NumberedForms.{NumberedForms}
use Rattle.lw_laws.specs.NumberedValues.{AreNumberedValues}
use Rattle.lw_form.specs.Links.{HaveOneValue, with_pair}
use Rattle.lw_form.proofs.LinkedForms.{pair_cases}
use Rattle.lw_links.specs.Linked.{IsLinked, TellPairs}

-- values of a longer list are values of the list
values_before : (old new : NumberedForms) → IsLinked old new → (x value : ℕ → Bool) → AreNumberedValues new x value → AreNumberedValues old x value
values_before old new linked x value are = record {
  flips = are.flips;
  bases = λ b base at. are.bases b base (subst (λ bs. slice_get bs b ≡ Some base) (sym linked.bases) at);
  signals = λ f h (s, e, d). are.signals f h (s, subst (λ xs. slice_get xs s ≡ Some f) (sym linked.sops) (get_left old.sops linked.lefts s f e), subst (λ xs. slice_get xs s ≡ Some h) (sym linked.facs) (get_left old.facs linked.rights s h d));
}

-- forms of one value stay such
pub one_value_stays : (old new : NumberedForms) (f h : ℕ) → IsLinked old new → HaveOneValue old f h → HaveOneValue new f h
one_value_stays old new f h linked one = record {
  left = subst (λ bs. f / 2 < length bs) (sym linked.bases) one.left;
  right = subst (λ bs. h / 2 < length bs) (sym linked.bases) one.right;
  always = λ x value are. one.always x value (values_before old new linked x value are);
}

pub they_still_tell : (old new : NumberedForms) (literals : List Literal) → IsLinked old new → TellPairs old literals → TellPairs new literals
they_still_tell old new literals linked tell = record {
  each = λ a b l m at at' same. one_value_stays old new (2 * a + l.0 % 2) (2 * b + m.0 % 2) linked (tell.each a b l m at at' same);
}

pub linked_same : (forms : NumberedForms) → IsLinked forms forms
linked_same forms = record {
  inputs = refl;
  bases = refl;
  lefts = [];
  rights = [];
  one_each = refl;
  sops = sym (append-nil forms.sops);
  facs = sym (append-nil forms.facs);
  each = λ k f h e d. absurd (none-some f e);
}

-- a list with more pairs and one more
pub linked_more : (old now : NumberedForms) (f h : ℕ) → IsLinked old now → HaveOneValue old f h → IsLinked old (with_pair now f h)
linked_more old now f h linked one = record {
  inputs = linked.inputs;
  bases = linked.bases;
  lefts = linked.lefts ++ f ∷ [];
  rights = linked.rights ++ h ∷ [];
  one_each = length-append linked.lefts (f ∷ []) ∙ (ap (λ n. n + 1) linked.one_each ∙ sym (length-append linked.rights (h ∷ [])));
  sops = ap (λ xs. xs ++ f ∷ []) linked.sops ∙ append_assoc old.sops linked.lefts (f ∷ []);
  facs = ap (λ xs. xs ++ h ∷ []) linked.facs ∙ append_assoc old.facs linked.rights (h ∷ []);
  each = λ k a b e d. by k a b (pair_cases linked.lefts linked.rights f h k a b (sym linked.one_each) e d);
}
  where
    by : (k a b : ℕ) → ((slice_get linked.lefts k ≡ Some a) × (slice_get linked.rights k ≡ Some b)) ⊎ ((a ≡ f) × (b ≡ h)) → HaveOneValue old a b
    by k a b (inl (p, q)) = linked.each k a b p q
    by k a b (inr (p, q)) = subst (λ n. HaveOneValue old n b) (sym p) (subst (HaveOneValue old f) (sym q) one)

-- the same where a pair may have been added
pub linked_result : {A E : Type 0} (before old new : NumberedForms) (f h : ℕ) (result : Result A E) → MatchResult result (λ _. new ≡ with_pair old f h) (λ _. new ≡ old) → IsLinked before (with_pair old f h) → OnOk result (IsLinked before new)
linked_result before old new f h (Ok x) is linked = subst (IsLinked before) (sym is) linked
linked_result before old new f h (Err e) is linked = tt
