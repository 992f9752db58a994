-- The numbers below a bound with a property that is decided, in the order of gates.
use Rattle.std.proofs.Common.{ℕ, zero, suc, ◌<◌, ◌≤◌, ◌≡◌, ◌⊎◌, ◌↔◌, inl, inr, List, [], ◌∷◌, length, Some, Contains, slice_get, refl, ap, sym, subst, arith}
use Rattle.std.specs.List.{AllByRecursion}
use native.Mathlib.Decide.{dec_lt}
use native.Mathlib.Nat.{eq-or-lt_of_le}
use Rattle.lw_facts.proofs.Lists.{contains_cases, contains_tail}
use Rattle.lw_laws.specs.Extracts.{IsGateBefore}
use Rattle.lw_laws.proofs.Lists.{all_contains, contains_all, all_at}
use Rattle.lw_laws.proofs.Heights.{all_weaker}
use Rattle.lw_exists.proofs.Weak.{Decided}

module _ (heights : ℕ → ℕ) where
  before_or_after : (c d : ℕ) → (c ≡ d → ⊥) → IsGateBefore heights c d ⊎ IsGateBefore heights d c
  before_or_after c d ne = by_heights (dec_lt (heights c) (heights d)) (dec_lt (heights d) (heights c)) (dec_lt c d)
    where
      by_place : (d ≡ c) ⊎ (d < c) → heights d ≡ heights c → IsGateBefore heights d c
      by_place (inl e) h = absurd (ne (sym e))
      by_place (inr l) h = inr (h, l)

      by_heights : Dec (heights c < heights d) → Dec (heights d < heights c) → Dec (c < d) → IsGateBefore heights c d ⊎ IsGateBefore heights d c
      by_heights (yes l) b p = inl (inl l)
      by_heights (no out) (yes l) p = inr (inl l)
      by_heights (no out) (no past) (yes l) = inl (inr (omega arith, l))
      by_heights (no out) (no past) (no more) = inr (by_place (eq-or-lt_of_le {n = d} {m = c} (omega arith)) (omega arith))

  before_before : (c d e : ℕ) → IsGateBefore heights c d → IsGateBefore heights d e → IsGateBefore heights c e
  before_before c d e (inl a) (inl b) = inl (omega arith)
  before_before c d e (inl a) (inr (h, b)) = inl (omega arith)
  before_before c d e (inr (h, a)) (inl b) = inl (omega arith)
  before_before c d e (inr (h, a)) (inr (k, b)) = inr (omega arith, omega arith)

  abbrev pub AreSorted : List ℕ → Type 0
  AreSorted [] = Unit {0}
  AreSorted (c ∷ cs) = AllByRecursion (λ d. IsGateBefore heights c d) cs × AreSorted cs

  head_in : (x : ℕ) (xs : List ℕ) (c : ℕ) → (x ≡ c) ⊎ Contains xs c → Contains (x ∷ xs) c
  head_in x xs c (inl e) = (0, omega arith, e)
  head_in x xs c (inr at) = contains_tail x xs c at

  -- the list with one number more
  abbrev IsWith : ℕ → List ℕ → List ℕ → Type 0
  IsWith x ys zs =
      (length zs ≡ suc (length ys)) × AreSorted zs × ((c : ℕ) → Contains zs c ↔ ((x ≡ c) ⊎ Contains ys c))

  insert : (x : ℕ) (ys : List ℕ) → AreSorted ys → ((y : ℕ) → Contains ys y → x ≡ y → ⊥) → (zs : List ℕ) × IsWith x ys zs
  insert x [] s ne = (x ∷ [], (refl, (tt, tt), λ c. (contains_cases x [] c, head_in x [] c)))
  insert x (y ∷ ys) (a, s) ne = by_order (before_or_after x y (ne y (0, omega arith, refl))) (insert x ys s (λ z at. ne z (contains_tail y ys z at)))
    where
      later : IsGateBefore heights y x → (zs : List ℕ) → ((c : ℕ) → Contains zs c ↔ ((x ≡ c) ⊎ Contains ys c)) → (z : ℕ) → (x ≡ z) ⊎ Contains ys z → IsGateBefore heights y z
      later b zs same z (inl e) = subst (IsGateBefore heights y) e b
      later b zs same z (inr at) = all_contains (λ d. IsGateBefore heights y d) ys z a at

      to : (zs : List ℕ) → ((c : ℕ) → Contains zs c ↔ ((x ≡ c) ⊎ Contains ys c)) → (c : ℕ) → (y ≡ c) ⊎ Contains zs c → (x ≡ c) ⊎ Contains (y ∷ ys) c
      to zs same c (inl e) = inr (0, omega arith, e)
      to zs same c (inr at) = moved ((same c).0 at)
        where
          moved : (x ≡ c) ⊎ Contains ys c → (x ≡ c) ⊎ Contains (y ∷ ys) c
          moved (inl e) = inl e
          moved (inr in') = inr (contains_tail y ys c in')

      from : (zs : List ℕ) → ((c : ℕ) → Contains zs c ↔ ((x ≡ c) ⊎ Contains ys c)) → (c : ℕ) → (x ≡ c) ⊎ Contains (y ∷ ys) c → Contains (y ∷ zs) c
      from zs same c (inl e) = contains_tail y zs c ((same c).1 (inl e))
      from zs same c (inr at) = moved (contains_cases y ys c at)
        where
          moved : (y ≡ c) ⊎ Contains ys c → Contains (y ∷ zs) c
          moved (inl e) = (0, omega arith, e)
          moved (inr in') = contains_tail y zs c ((same c).1 (inr in'))

      by_order : IsGateBefore heights x y ⊎ IsGateBefore heights y x → (zs : List ℕ) × IsWith x ys zs → (zs : List ℕ) × IsWith x (y ∷ ys) zs
      by_order (inl b) rest =
          (x ∷ y ∷ ys, (refl, ((b, all_weaker (λ d. IsGateBefore heights y d) (λ d. IsGateBefore heights x d) (λ d after. before_before x y d b after) ys a), (a, s)), λ c. (contains_cases x (y ∷ ys) c, head_in x (y ∷ ys) c)))
      by_order (inr b) (zs, (count, sorted, same)) =
          (y ∷ zs, (ap suc count, (contains_all (λ d. IsGateBefore heights y d) zs (λ z at. later b zs same z ((same z).0 at)), sorted), λ c. (λ at. to zs same c (contains_cases y zs c at), from zs same c)))

  -- the numbers below the bound that have it
  abbrev AreThose : (ℕ → Type 0) → ℕ → List ℕ → Type 0
  AreThose W n xs = (length xs ≤ n) × AreSorted xs × ((c : ℕ) → Contains xs c ↔ ((c < n) × W c))

  pub some_sorted : (W : ℕ → Type 0) (n : ℕ) → Decided W n → (xs : List ℕ) × ((length xs ≤ n) × AreSorted xs × ((c : ℕ) → Contains xs c ↔ ((c < n) × W c)))
  some_sorted W zero d = ([], (omega arith, tt, λ c. (λ (k, lt, e). absurd (omega arith), λ (lt, w). absurd (omega arith))))
  some_sorted W (suc n) d = by_last (d n (omega arith)) (some_sorted W n (λ i lt. d i (omega arith)))
    where
      to : W n → (c : ℕ) → (n ≡ c) ⊎ ((c < n) × W c) → (c < suc n) × W c
      to w c (inl e) = (omega arith, subst W e w)
      to w c (inr (lt, v)) = (omega arith, v)

      from : (c : ℕ) → W c → (c ≡ n) ⊎ (c < n) → (n ≡ c) ⊎ ((c < n) × W c)
      from c v (inl e) = inl (sym e)
      from c v (inr lt) = inr (lt, v)

      through : (xs : List ℕ) (c : ℕ) → (Contains xs c ↔ ((c < n) × W c)) → (n ≡ c) ⊎ Contains xs c → (n ≡ c) ⊎ ((c < n) × W c)
      through xs c same (inl e) = inl e
      through xs c same (inr at) = inr (same.0 at)

      back : (xs : List ℕ) (c : ℕ) → (Contains xs c ↔ ((c < n) × W c)) → (n ≡ c) ⊎ ((c < n) × W c) → (n ≡ c) ⊎ Contains xs c
      back xs c same (inl e) = inl e
      back xs c same (inr w) = inr (same.1 w)

      not_last : (W n → ⊥) → (c : ℕ) → W c → (c ≡ n) ⊎ (c < n) → c < n
      not_last out c v (inl e) = absurd (out (subst W e v))
      not_last out c v (inr lt) = lt

      by_last : W n ⊎ (W n → ⊥) → (xs : List ℕ) × AreThose W n xs → (xs : List ℕ) × AreThose W (suc n) xs
      by_last (inl w) (xs, (few, sorted, same)) =
          let (zs, (count, rises, is)) = insert n xs sorted (λ y at e. let lt = ((same y).0 at).0 in omega arith) in
          (zs, (omega arith, rises, λ c. (λ at. to w c (through xs c (same c) ((is c).0 at)), λ (lt, v). (is c).1 (back xs c (same c) (from c v (eq-or-lt_of_le {n = c} {m = n} (omega arith)))))))
      by_last (inr out) (xs, (few, sorted, same)) =
          (xs, (omega arith, sorted, λ c. (λ at. let (lt, v) = (same c).0 at in (omega arith, v), λ (lt, v). (same c).1 (not_last out c v (eq-or-lt_of_le {n = c} {m = n} (omega arith)), v))))

  pub sorted_at : (xs : List ℕ) → AreSorted xs → (i j c d : ℕ) → slice_get xs i ≡ Some c → slice_get xs j ≡ Some d → i < j → IsGateBefore heights c d
  sorted_at [] s i j c d e f lt = cc
  sorted_at (x ∷ xs) (a, s) i zero c d e f lt = absurd (omega arith)
  sorted_at (x ∷ xs) (a, s) zero (suc j) c d e f lt = let same : x ≡ c = cc in subst (λ z. IsGateBefore heights z d) same (all_at (λ y. IsGateBefore heights x y) xs a j d f)
  sorted_at (x ∷ xs) (a, s) (suc i) (suc j) c d e f lt = sorted_at xs s i j c d e f (omega arith)
