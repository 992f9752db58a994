-- The values of listed forms fit the facts of both modes.
use Rattle.std.proofs.Common.{ℕ, ◌+◌, ◌*◌, ◌≡◌, inl, inr, Bool, true, false, not, ◌&&◌, List, [], ◌∷◌, Some, slice_get, refl, ap, ap₂, sym, ◌∙◌}
use Rattle.std.specs.List.{list_all}
use Rattle.std.proofs.Math.Bool.{and-true, and_assoc, and_self}
use Rattle.lw_facts.proofs.Tests.{and_swap}
use Rattle.lw_laws.specs.Flip.{flip}
use Rattle.lw_laws.specs.NumberedForms.{NumberedForms, IsCut, IsCovering, IsPart, IsCutOf, IsCoveringOf, IsTwice, IsSplitOf, family_of}
use Rattle.lw_laws.specs.NumberedForms.Base.{base_true, base_input, base_and}
use Rattle.lw_laws.specs.NumberedForms.IsCut.{cut_none, cut_left, cut_right}
use Rattle.lw_laws.specs.NumberedForms.IsCovering.{in_none, in_left, in_right, in_both}
use Rattle.lw_laws.specs.Modes.Mode.{plain, idempotent}
use Rattle.lw_laws.specs.Truth.{IsValuation}
use Rattle.lw_laws.specs.NumberedValues.{AreNumberedValues}
use Rattle.lw_laws.specs.Modes.{Mode}
use Rattle.lw_laws.proofs.Flips.{flip-flip, flip_even}

and_both : (a b c : Bool) → (a && (b && c)) ≡ ((a && b) && (a && c))
and_both true b c = refl
and_both false b c = refl

module _ (forms : NumberedForms) (x value : ℕ → Bool) (are : AreNumberedValues forms x value) where
  all_cut : {fs ls rs : List ℕ} → IsCut fs ls rs → list_all value fs ≡ (list_all value ls && list_all value rs)
  all_cut cut_none = refl
  all_cut (cut_left {f = f} {ls = ls} {rs = rs} c) =
      ap (λ b. value f && b) (all_cut c) ∙ sym (and_assoc (value f) (list_all value ls) (list_all value rs))
  all_cut (cut_right {f = f} {ls = ls} {rs = rs} c) =
      ap (λ b. value f && b) (all_cut c) ∙ and_swap (value f) (list_all value ls) (list_all value rs)

  all_covering : {fs ls rs : List ℕ} → IsCovering fs ls rs → list_all value fs ≡ (list_all value ls && list_all value rs)
  all_covering in_none = refl
  all_covering (in_left {f = f} {ls = ls} {rs = rs} c) =
      ap (λ b. value f && b) (all_covering c) ∙ sym (and_assoc (value f) (list_all value ls) (list_all value rs))
  all_covering (in_right {f = f} {ls = ls} {rs = rs} c) =
      ap (λ b. value f && b) (all_covering c) ∙ and_swap (value f) (list_all value ls) (list_all value rs)
  all_covering (in_both {f = f} {ls = ls} {rs = rs} c) =
      ap (λ b. value f && b) (all_covering c) ∙ and_both (value f) (list_all value ls) (list_all value rs)

  -- the And of a part has the value of its operands together
  part_value : (ls : List ℕ) (f : ℕ) → IsPart forms ls f → value f ≡ list_all value ls
  part_value [] f p = absurd p
  part_value (a ∷ []) f p = ap value p ∙ sym (and-true (value a))
  part_value (a ∷ h ∷ ls) f (b, e, s) = ap value s ∙ are.bases b (base_and (a ∷ h ∷ ls)) e

  -- the complement of a listed And
  and_complement : (f b : ℕ) (fs : List ℕ) → slice_get forms.bases b ≡ Some (base_and fs) → f ≡ 2 * b + 1 → value f ≡ not (list_all value fs)
  and_complement f b fs e s =
      ap value (s ∙ sym (flip_even (2 * b) b refl)) ∙ (are.flips (2 * b) ∙ ap not (are.bases b (base_and fs) e))

  cut_value : (f g h : ℕ) → IsCutOf forms f g h → value f ≡ not (value g && value h)
  cut_value f g h (b, fs, ls, rs, e, s, c, p, q) =
      and_complement f b fs e s ∙ ap not (all_cut c ∙ ap₂ (λ a b. a && b) (sym (part_value ls g p)) (sym (part_value rs h q)))

  covering_value : (f g h : ℕ) → IsCoveringOf forms f g h → value f ≡ not (value g && value h)
  covering_value f g h (b, fs, ls, rs, e, s, c, ne, p, q) =
      and_complement f b fs e s ∙ ap not (all_covering c ∙ ap₂ (λ a b. a && b) (sym (part_value ls g p)) (sym (part_value rs h q)))

  twice_value : (f g h : ℕ) → IsTwice forms f g h → value f ≡ not (value g && value h)
  twice_value f g h (o, s, t) =
      ap value (sym (flip-flip f)) ∙ (are.flips (flip f) ∙ ap not (sym (and_self (value (flip f))) ∙ ap₂ (λ a b. a && b) (ap value (sym s)) (ap value (sym t))))

  split_value : (mode : Mode) (f g h : ℕ) → IsSplitOf mode forms f g h → value f ≡ not (value g && value h)
  split_value plain f g h c = cut_value f g h c
  split_value idempotent f g h (inl c) = cut_value f g h c
  split_value idempotent f g h (inr (inl c)) = covering_value f g h c
  split_value idempotent f g h (inr (inr t)) = twice_value f g h t

  -- the values of listed forms fit the facts
  pub form_values_fit : (mode : Mode) → IsValuation (family_of mode forms) x value
  form_values_fit mode = record {
    inputs = λ f i (b, e, s). ap value s ∙ are.bases b (base_input i) e;
    tops = λ f (b, e, s). ap value s ∙ are.bases b base_true e;
    flips = are.flips;
    splits = λ f g h c. split_value mode f g h c;
    links = are.signals;
  }
