-- Lists by place, with an element behind them or another in place of one.
use Rattle.std.proofs.Common.{◌≡◌, ◌≢◌, ℕ, zero, suc, ◌+◌, ◌<◌, ◌⊎◌, inl, inr, length, List, [], ◌∷◌, ◌++◌, Contains, Some, slice_get, slice_index_or, slice_set, refl, sym, ap, ◌∙◌, arith}
use Rattle.std.proofs.lemmas.Option.{same_Some, slice_get_within}

module _ {X : Type 0} where
  pub get_some : (xs : List X) (i : ℕ) → i < length xs → (x : X) × (slice_get xs i ≡ Some x)
  get_some [] i lt = absurd (omega arith)
  get_some (y ∷ xs) zero lt = (y, refl)
  get_some (y ∷ xs) (suc i) lt = get_some xs i (omega arith)

  pub read_at : (xs : List X) (i : ℕ) (x : X) → i < length xs → x ≡ slice_index_or xs i x → slice_get xs i ≡ Some x
  read_at [] i x lt e = absurd (omega arith)
  read_at (y ∷ xs) zero x lt e = ap Some (sym e)
  read_at (y ∷ xs) (suc i) x lt e = read_at xs i x (omega arith) e

  pub got : (xs : List X) (i : ℕ) (d : X) → i < length xs → slice_get xs i ≡ Some (slice_index_or xs i d)
  got [] i d lt = absurd (omega arith)
  got (y ∷ xs) zero d lt = refl
  got (y ∷ xs) (suc i) d lt = got xs i d (omega arith)

  pub length_push : (xs : List X) (x : X) → ◌≡◌ {A = ℕ} (length (xs ++ x ∷ [])) (length xs + 1)
  length_push [] x = refl
  length_push (y ∷ xs) x = let ih = length_push xs x in omega arith

  pub get_last : (xs : List X) (x : X) → slice_get (xs ++ x ∷ []) (length xs) ≡ Some x
  get_last [] x = refl
  get_last (y ∷ xs) x = get_last xs x

  pub get_push : (xs : List X) (x : X) (i : ℕ) (y : X) → slice_get xs i ≡ Some y → slice_get (xs ++ x ∷ []) i ≡ Some y
  get_push [] x i y e = cc
  get_push (z ∷ xs) x zero y e = e
  get_push (z ∷ xs) x (suc i) y e = get_push xs x i y e

  pub push_cases : (xs : List X) (x : X) (i : ℕ) (y : X) → slice_get (xs ++ x ∷ []) i ≡ Some y → (slice_get xs i ≡ Some y) ⊎ ((i ≡ length xs) × (x ≡ y))
  push_cases [] x zero y e = inr (refl, same_Some x y e)
  push_cases [] x (suc i) y e = cc
  push_cases (z ∷ xs) x zero y e = inl e
  push_cases (z ∷ xs) x (suc i) y e = more (push_cases xs x i y e)
    where
      more : (slice_get xs i ≡ Some y) ⊎ ((i ≡ length xs) × (x ≡ y)) → (slice_get (z ∷ xs) (suc i) ≡ Some y) ⊎ ((suc i ≡ length (z ∷ xs)) × (x ≡ y))
      more (inl at) = inl at
      more (inr (s, f)) = inr (ap suc s, f)

  pub get_set : (xs : List X) (c : ℕ) (x : X) → c < length xs → slice_get (slice_set xs c x) c ≡ Some x
  get_set [] c x lt = absurd (omega arith)
  get_set (y ∷ xs) zero x lt = refl
  get_set (y ∷ xs) (suc c) x lt = get_set xs c x (omega arith)

  pub get_set_other : (xs : List X) (c i : ℕ) (x y : X) → i ≢ c → slice_get xs i ≡ Some y → slice_get (slice_set xs c x) i ≡ Some y
  get_set_other [] c i x y ne e = cc
  get_set_other (z ∷ xs) zero zero x y ne e = absurd (ne refl)
  get_set_other (z ∷ xs) zero (suc i) x y ne e = e
  get_set_other (z ∷ xs) (suc c) zero x y ne e = e
  get_set_other (z ∷ xs) (suc c) (suc i) x y ne e = get_set_other xs c i x y (λ s. ne (ap suc s)) e

  pub set_cases : (xs : List X) (c i : ℕ) (x y : X) → slice_get (slice_set xs c x) i ≡ Some y → ((i ≡ c) × (x ≡ y)) ⊎ ((i ≢ c) × (slice_get xs i ≡ Some y))
  set_cases [] c i x y e = cc
  set_cases (z ∷ xs) zero zero x y e = inl (refl, same_Some x y e)
  set_cases (z ∷ xs) zero (suc i) x y e = inr ((λ s. absurd (omega arith)), e)
  set_cases (z ∷ xs) (suc c) zero x y e = inr ((λ s. absurd (omega arith)), e)
  set_cases (z ∷ xs) (suc c) (suc i) x y e = more (set_cases xs c i x y e)
    where
      more : ((i ≡ c) × (x ≡ y)) ⊎ ((i ≢ c) × (slice_get xs i ≡ Some y)) → ((suc i ≡ suc c) × (x ≡ y)) ⊎ ((suc i ≢ suc c) × (slice_get xs i ≡ Some y))
      more (inl (s, f)) = inl (ap suc s, f)
      more (inr (ne, at)) = inr ((λ s. ne (omega arith)), at)

  pub contained_at : (xs : List X) (x : X) → Contains xs x → (n : ℕ) × (slice_get xs n ≡ Some x)
  contained_at xs x (k, lt, e) = (k, got xs k x lt ∙ ap Some e)

  pub at_contained : (xs : List X) (n : ℕ) (x : X) → slice_get xs n ≡ Some x → Contains xs x
  at_contained xs n x at = let lt = slice_get_within xs n x at in (n, lt, same_Some (slice_index_or xs n x) x (sym (got xs n x lt) ∙ at))

pub in_tail : {X : Type 0} (y x : X) (xs : List X) → Contains xs x → Contains (y ∷ xs) x
in_tail y x xs (k, lt, e) = (suc k, omega arith, e)
