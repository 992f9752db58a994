-- An And is the conjunction of the And of all its operands but the last, and of the last.
use Rattle.std.proofs.Common.{ℕ, zero, suc, ◌+◌, ◌-◌, ◌*◌, ◌/◌, ◌%◌, ◌^◌, ◌<◌, ◌≤◌, ◌≡◌, ◌==◌, Bool, ◌&&◌, cond, List, [], ◌∷◌, ◌++◌, length, take, drop, Some, slice_get, ap, ap₂, sym, ◌∙◌, subst, arith, pow-suc}
use Rattle.std.specs.List.{AllByRecursion, list_all}
use Rattle.std.proofs.lemmas.List.{length-take-le, length-drop, take_all}
use Rattle.std.proofs.lemmas.List.Folds.{list_all-append}
use Rattle.std.proofs.lemmas.Nat.{pow_pos}
use Rattle.std.proofs.Math.Bool.{and-true}
use native.Mathlib.Decide.{dec_lt}
use Rattle.lw_facts.proofs.Lists.{all_last, take_get}
use Rattle.lw_laws.specs.NumberedForms.{NumberedForms, IsBefore, IsCut, IsPart}
use Rattle.lw_laws.specs.NumberedForms.Base.{base_and, base_input, base_true}
use Rattle.lw_laws.specs.NumberedForms.IsCut.{cut_none, cut_left, cut_right}
use Rattle.lw_laws.specs.NumberedValues.{AreNumberedValues}
use Rattle.lw_form.specs.Bases.{picked}
use Rattle.lw_form.specs.Kept.{AreForms, HasPart}
use Rattle.lw_form.proofs.Parts.{picked_zero}

-- the mask of the first operands
picked_first : (fs : List ℕ) (k : ℕ) → k ≤ length fs → picked fs (2 ^ k - 1) ≡ take k fs
picked_first fs zero low = picked_zero fs
picked_first [] (suc k) low = absurd (omega (arith, low))
picked_first (f ∷ fs) (suc k) low = by (2 ^ suc k - 1) odd half (picked_first fs k (omega (arith, low)))
  where
    odd : (2 ^ suc k - 1) % 2 ≡ 1
    odd = omega (arith, pow-suc 2 k, pow_pos k)

    half : (2 ^ suc k - 1) / 2 ≡ 2 ^ k - 1
    half = omega (arith, pow-suc 2 k, pow_pos k)

    by : (mask : ℕ) → mask % 2 ≡ 1 → mask / 2 ≡ 2 ^ k - 1 → picked fs (2 ^ k - 1) ≡ take k fs → picked (f ∷ fs) mask ≡ f ∷ take k fs
    by mask o h rest =
        ap (λ (n : ℕ). cond (n == 1) (f ∷ picked fs (mask / 2)) (picked fs (mask / 2))) o
        ∙ ap (λ hs. f ∷ hs) (ap (picked fs) h ∙ rest)

cut_first : (fs : List ℕ) (k : ℕ) → IsCut fs (take k fs) (drop k fs)
cut_first [] zero = cut_none
cut_first [] (suc k) = cut_none
cut_first (f ∷ fs) zero = cut_right (cut_first fs zero)
cut_first (f ∷ fs) (suc k) = cut_left (cut_first fs k)

part_once : (forms : NumberedForms) → AreForms forms → (ls : List ℕ) (x y : ℕ) → IsPart forms ls x → IsPart forms ls y → x ≡ y
part_once forms are [] x y p q = absurd p
part_once forms are (f ∷ []) x y p q = p ∙ sym q
part_once forms are (f ∷ h ∷ fs) x y (a, e, p) (b, d, q) = p ∙ (ap (λ n. 2 * n) (are.once a b (base_and (f ∷ h ∷ fs)) e d) ∙ sym q)

part_value : (forms : NumberedForms) (x value : ℕ → Bool) → AreNumberedValues forms x value → (ls : List ℕ) (p : ℕ) → IsPart forms ls p → value p ≡ list_all value ls
part_value forms x value are [] p is = absurd is
part_value forms x value are (f ∷ []) p is = ap value is ∙ sym (and-true (value f))
part_value forms x value are (f ∷ h ∷ fs) p (b, e, q) = ap value q ∙ are.bases b (base_and (f ∷ h ∷ fs)) e

-- the mask names all operands but the last
module _ (forms : NumberedForms) (are : AreForms forms) (b : ℕ) (fs : List ℕ) (at : slice_get forms.bases b ≡ Some (base_and fs)) (count mask : ℕ) (mask_is : mask ≡ 2 ^ (count - 1) - 1) (all : count ≡ length fs) where
  two : 2 ≤ length fs
  two = (are.operands b fs at).two

  others : picked fs mask ≡ take (count - 1) fs
  others = ap (picked fs) mask_is ∙ picked_first fs (count - 1) (omega (arith, all))

  whole : (l : ℕ) → slice_get fs (count - 1) ≡ Some l → fs ≡ take (count - 1) fs ++ l ∷ []
  whole l last =
      let t = two in
      sym (take_all (count - 1 + 1) fs (omega (arith, all))) ∙ take_get fs (count - 1) l last

  pub has_part : HasPart forms b mask
  has_part = (fs, at, some (count - 1) (let t = two in omega (arith, all)) mask_is, few (count - 1) (let t = two in omega (arith, all)) mask_is)
    where
      some : (k : ℕ) → 1 ≤ k → mask ≡ 2 ^ k - 1 → 1 ≤ mask
      some zero low e = absurd (omega (arith, low))
      some (suc k) low e = omega (arith, e, pow-suc 2 k, pow_pos k)

      few : (k : ℕ) → length fs ≡ suc k → mask ≡ 2 ^ k - 1 → mask < 2 ^ length fs
      few k long e = subst (λ n. mask < 2 ^ n) (sym long) (omega (arith, e, pow-suc 2 k, pow_pos k))

  -- the And of these operands is listed before, and so is the last one
  pub part_before : (p : ℕ) → IsPart forms (picked fs mask) p → p / 2 < b
  part_before p is =
      let t = two in
      let first : IsPart forms (take (count - 1) fs) p = subst (λ ls. IsPart forms ls p) others is in
      let left = length-take-le (count - 1) fs (omega (arith, all)) in
      let right = length-drop (count - 1) fs in
      let (q, part, before) = (are.numbered.ands b fs at).parts (take (count - 1) fs) (drop (count - 1) fs) (cut_first fs (count - 1)) (omega (arith, left, t, all)) (omega (arith, right, t, all)) in
      subst (λ n. n / 2 < b) (part_once forms are (take (count - 1) fs) q p part first) before

  pub last_before : (l : ℕ) → slice_get fs (count - 1) ≡ Some l → l / 2 < b
  last_before l last =
      all_last (IsBefore b) (take (count - 1) fs) l (subst (AllByRecursion (IsBefore b)) (whole l last) (are.numbered.ands b fs at).operands)

  pub and_value : (x value : ℕ → Bool) → AreNumberedValues forms x value → (p l : ℕ) → IsPart forms (picked fs mask) p → slice_get fs (count - 1) ≡ Some l → value (2 * b) ≡ (value p && value l)
  and_value x value values p l is last =
      let first : IsPart forms (take (count - 1) fs) p = subst (λ ls. IsPart forms ls p) others is in
      values.bases b (base_and fs) at
      ∙ (ap (list_all value) (whole l last)
      ∙ (list_all-append value (take (count - 1) fs) (l ∷ [])
      ∙ ap₂ (λ (c d : Bool). c && d) (sym (part_value forms x value values (take (count - 1) fs) p first)) (and-true (value l))))

-- a listed input is one of the network's
pub input_known : (forms : NumberedForms) → AreForms forms → (b i : ℕ) → slice_get forms.bases b ≡ Some (base_input i) → b < length forms.bases → i < forms.inputs
input_known forms are zero i e lt = none_of are.in_order.first e
  where
    none_of : slice_get forms.bases 0 ≡ Some base_true → slice_get forms.bases 0 ≡ Some (base_input i) → i < forms.inputs
    none_of p q = cc
input_known forms are (suc k) i e lt = by (dec_lt k forms.inputs)
  where
    by : Dec (k < forms.inputs) → i < forms.inputs
    by (yes low) = subst (λ n. n < forms.inputs) (same (subst (λ n. slice_get forms.bases n ≡ Some (base_input k)) next (are.in_order.inputs k low)) e) low
      where
        next : k + 1 ≡ suc k
        next = omega arith

        same : slice_get forms.bases (suc k) ≡ Some (base_input k) → slice_get forms.bases (suc k) ≡ Some (base_input i) → k ≡ i
        same p q = cc
    by (no high) = let (fs, at) = are.in_order.later (suc k) (omega (arith, high)) lt in none_of fs at e
      where
        none_of : (fs : List ℕ) → slice_get forms.bases (suc k) ≡ Some (base_and fs) → slice_get forms.bases (suc k) ≡ Some (base_input i) → i < forms.inputs
        none_of fs p q = cc
