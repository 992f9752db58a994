-- Lists in which one entry is set.
use Rattle.std.proofs.Common.{◌≡◌, ◌<◌, ◌⊎◌, inl, inr, ℕ, zero, suc, List, [], ◌∷◌, length, Some, None, subst, slice_get, slice_index, slice_set, get_or, refl, ap, arith, ◌∙◌}
use Rattle.std.proofs.lemmas.Option.{same_Some, slice_get_read, get_or_from_slice_get}
use Rattle.std.proofs.lemmas.List.Sums.{sum_by-set}
use Rattle.lw_lut.specs.Searches.{total}
use Rattle.std.proofs.lemmas.Bool.{cases_eq}
use Rattle.std.proofs.lemmas.List.{get_or-set_same, get_or-set_other}

pub none_some : {X A : Type 0} {y : X} → None ≡ Some y → A
none_some {X} {A} e = absurd (subst (λ o. elim o as (λ q. Type 0) [ Some q ↦ ⊥ | None ↦ Unit {0} ]) e tt)

pub get_set : {X : Type 0} (xs : List X) (i : ℕ) (x : X) (k : ℕ) (y : X) → slice_get (slice_set xs i x) k ≡ Some y → ((k ≡ i) × (x ≡ y)) ⊎ ((k ≡ i → ⊥) × (slice_get xs k ≡ Some y))
get_set [] i x k y e = none_some e
get_set (z ∷ xs) zero x zero y e = inl (refl, same_Some x y e)
get_set (z ∷ xs) zero x (suc k) y e = inr (λ s. omega (arith, s), e)
get_set (z ∷ xs) (suc i) x zero y e = inr (λ s. omega (arith, s), e)
get_set (z ∷ xs) (suc i) x (suc k) y e = elim (get_set xs i x k y e) [
  | inl (s, t) ↦ inl (ap suc s, t)
  | inr (s, t) ↦ inr (λ r. s (omega (arith, r)), t)
]

pub number_set : (xs : List ℕ) (i n k : ℕ) → i < length xs → ((k ≡ i) × (slice_index (slice_set xs i n) k ≡ n)) ⊎ ((k ≡ i → ⊥) × (slice_index (slice_set xs i n) k ≡ slice_index xs k))
number_set xs i n k lt = elim (cases_eq k i) [
  | inl same ↦ inl (same, rw same (get_or-set_same xs i n 0 lt))
  | inr other ↦ inr (other, get_or-set_other xs i k n 0 other)
]

pub sum_set : (xs : List ℕ) (i n : ℕ) → i < length xs → n < slice_index xs i → total (slice_set xs i n) < total xs
sum_set xs i n lt less = let e = sum_by-set (λ m. m) xs i n 0 lt in omega (arith, e, less)

-- an entry as it was read
pub read_at : {X : Type 0} (xs : List X) (i j : ℕ) (x : X) → i ≡ j → j < length xs → x ≡ get_or xs i x → slice_get xs j ≡ Some x
read_at xs i j x same lt e = slice_get_read xs (length xs) j x refl lt (e ∙ ap (λ k. get_or xs k x) same)

pub read_number : (xs : List ℕ) (i j x : ℕ) → i ≡ j → j < length xs → x ≡ get_or xs i x → slice_index xs j ≡ x
read_number xs i j x same lt e = get_or_from_slice_get xs j x 0 (read_at xs i j x same lt e)

pub set_here : {X : Type 0} (xs : List X) (i : ℕ) (x : X) → i < length xs → slice_get (slice_set xs i x) i ≡ Some x
set_here [] i x lt = absurd (omega arith)
set_here (z ∷ xs) zero x lt = refl
set_here (z ∷ xs) (suc i) x lt = set_here xs i x (omega arith)

pub set_there : {X : Type 0} (xs : List X) (i : ℕ) (x : X) (k : ℕ) (y : X) → (k ≡ i → ⊥) → slice_get xs k ≡ Some y → slice_get (slice_set xs i x) k ≡ Some y
set_there [] i x k y ne e = e
set_there (z ∷ xs) zero x zero y ne e = absurd (ne refl)
set_there (z ∷ xs) zero x (suc k) y ne e = e
set_there (z ∷ xs) (suc i) x zero y ne e = e
set_there (z ∷ xs) (suc i) x (suc k) y ne e = set_there xs i x k y (λ s. ne (ap suc s)) e
