-- The input of each class, input by input.
use Rattle.std.proofs.Common.{◌≡◌, ◌≢◌, ℕ, zero, suc, ◌+◌, ◌<◌, ◌⊎◌, inl, inr, length, replicate, List, [], ◌∷◌, Option, Some, None, slice_get, slice_set, refl, ap, sym, ◌∙◌, subst, arith}
use native.Mathlib.Nat.{eq-or-lt_of_le}
use Rattle.std.proofs.lemmas.Option.{same_Some}
use Rattle.lw_laws.specs.Graphs.{Graph}
use Rattle.lw_backtrace.specs.Walks.{AreInputsTo}
use Rattle.lw_choices.proofs.Lists.{set_cases}

all_none : (n c : ℕ) (o : Option ℕ) → slice_get (replicate n None) c ≡ Some o → None ≡ o
all_none zero c o at = cc
all_none (suc n) zero o at = same_Some None o at
all_none (suc n) (suc c) o at = all_none n c o at

length_none : (n : ℕ) → length (replicate {A = Option ℕ} n None) ≡ n
length_none zero = refl
length_none (suc n) = ap suc (length_none n)

length_set : (xs : List (Option ℕ)) (c : ℕ) (x : Option ℕ) → length (slice_set xs c x) ≡ length xs
length_set [] c x = refl
length_set (y ∷ xs) zero x = refl
length_set (y ∷ xs) (suc c) x = ap suc (length_set xs c x)

module _ (g : Graph) where
  pub inputs_next : (n c : ℕ) (xs : List (Option ℕ)) → slice_get g.leaves n ≡ Some c → c < length xs → AreInputsTo g n xs → AreInputsTo g (n + 1) (slice_set xs c (Some n))
  inputs_next n c xs here lt are = record {
    one_each = length_set xs c (Some n) ∙ are.one_each;
    some = λ d i at. some d i (set_cases xs c d (Some n) (Some i) at);
    none = λ d i at lt leaf. none d i lt leaf (set_cases xs c d (Some n) None at);
  }
    where
      some : (d i : ℕ) → ((d ≡ c) × (Some n ≡ Some i)) ⊎ ((d ≢ c) × (slice_get xs d ≡ Some (Some i))) → slice_get g.leaves i ≡ Some d
      some d i (inl (e, f)) = subst (λ k. slice_get g.leaves k ≡ Some d) (same_Some n i f) (here ∙ ap (λ (k : ℕ). Some k) (sym e))
      some d i (inr (ne, at)) = are.some d i at

      none : (d i : ℕ) → i < n + 1 → slice_get g.leaves i ≡ Some d → ((d ≡ c) × (Some n ≡ None)) ⊎ ((d ≢ c) × (slice_get xs d ≡ Some None)) → ⊥
      none d i less leaf (inl (e, f)) = cc
      none d i less leaf (inr (ne, at)) = by_place (eq-or-lt_of_le {n = i} {m = n} (omega arith))
        where
          by_place : (i ≡ n) ⊎ (i < n) → ⊥
          by_place (inl e) = ne (same_Some d c (sym leaf ∙ (ap (slice_get g.leaves) e ∙ here)))
          by_place (inr low) = are.none d i at low leaf
