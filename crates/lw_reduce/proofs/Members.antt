-- Members of lists that are mapped, filtered, or left without repeats.
use Rattle.std.proofs.Common.{zero, suc, ◌≡◌, ◌≤◌, length, Bool, true, false, cond, List, [], ◌∷◌, filter, Contains, refl, ap, sym, ◌∙◌, subst, arith}
use Rattle.std.specs.List.{AllByRecursion, dedup, dedup_from}
use Rattle.lw_facts.proofs.Lists.{contains_tail}
use Rattle.lw_laws.proofs.Lists.{all_contains, contains_all}

pub in_head : {X : Type 0} (x : X) (xs : List X) → Contains (x ∷ xs) x
in_head x xs = (0, omega arith, refl)

pub filter_in : {X : Type 0} (p : X → Bool) (xs : List X) (x : X) → Contains xs x → p x ≡ true → Contains (filter p xs) x
filter_in p [] x (k, lt, e) t = absurd (omega arith)
filter_in p (y ∷ xs) x (zero, lt, e) t =
    let s : p y ≡ true = ap p e ∙ t in
    subst (λ b. Contains (cond b (y ∷ filter p xs) (filter p xs)) x) (sym s) (0, omega arith, e)
filter_in p (y ∷ xs) x (suc k, lt, e) t = by_test (p y) (filter_in p xs x (k, omega arith, e) t)
  where
    by_test : (b : Bool) → Contains (filter p xs) x → Contains (cond b (y ∷ filter p xs) (filter p xs)) x
    by_test true c = contains_tail y (filter p xs) x c
    by_test false c = c

pub filter_back : {X : Type 0} (p : X → Bool) (xs : List X) (x : X) → Contains (filter p xs) x → Contains xs x × (p x ≡ true)
filter_back p [] x (k, lt, e) = absurd (omega arith)
filter_back p (y ∷ xs) x c = by_test (p y) refl (λ d. filter_back p xs x d) c
  where
    by_test : (b : Bool) → p y ≡ b → (Contains (filter p xs) x → Contains xs x × (p x ≡ true)) → Contains (cond b (y ∷ filter p xs) (filter p xs)) x → Contains (y ∷ xs) x × (p x ≡ true)
    by_test true s ih (zero, lt, e) = ((0, omega arith, e), subst (λ z. p z ≡ true) e s)
    by_test true s ih (suc k, lt, e) = let (d, t) = ih (k, omega arith, e) in (contains_tail y xs x d, t)
    by_test false s ih c = let (d, t) = ih c in (contains_tail y xs x d, t)

module _ {X : Type 0} (E : X → X → Bool) where
  pub dedup_all : (P : X → Type 0) (k : X) (xs : List X) → P k → AllByRecursion P xs → AllByRecursion P (dedup_from E k xs)
  dedup_all P k [] p a = (p, tt)
  dedup_all P k (x ∷ xs) p (q, a) = by_test (E x k) (dedup_all P k xs p a) (dedup_all P x xs q a)
    where
      by_test : (b : Bool) → AllByRecursion P (dedup_from E k xs) → AllByRecursion P (dedup_from E x xs) → AllByRecursion P (cond b (dedup_from E k xs) (k ∷ dedup_from E x xs))
      by_test true c d = c
      by_test false c d = (p, d)

  dedup_head : (k : X) (xs : List X) → Contains (dedup_from E k xs) k
  dedup_head k [] = in_head k []
  dedup_head k (x ∷ xs) = by_test (E x k) (dedup_head k xs)
    where
      by_test : (b : Bool) → Contains (dedup_from E k xs) k → Contains (cond b (dedup_from E k xs) (k ∷ dedup_from E x xs)) k
      by_test true c = c
      by_test false c = in_head k (dedup_from E x xs)

  module _ (same : (x y : X) → E x y ≡ true → x ≡ y) where
    dedup_tail : (k : X) (xs : List X) (x : X) → Contains xs x → Contains (dedup_from E k xs) x
    dedup_tail k [] x (i, lt, e) = absurd (omega arith)
    dedup_tail k (y ∷ xs) x (zero, lt, e) = by_test (E y k) refl (dedup_head k xs) (dedup_head y xs)
      where
        by_test : (b : Bool) → E y k ≡ b → Contains (dedup_from E k xs) k → Contains (dedup_from E y xs) y → Contains (cond b (dedup_from E k xs) (k ∷ dedup_from E y xs)) x
        by_test true s c d = subst (λ z. Contains (dedup_from E k xs) z) (sym (same y k s) ∙ e) c
        by_test false s c d = contains_tail k (dedup_from E y xs) x (subst (λ z. Contains (dedup_from E y xs) z) e d)
    dedup_tail k (y ∷ xs) x (suc i, lt, e) =
        by_test (E y k) (dedup_tail k xs x (i, omega arith, e)) (dedup_tail y xs x (i, omega arith, e))
      where
        by_test : (b : Bool) → Contains (dedup_from E k xs) x → Contains (dedup_from E y xs) x → Contains (cond b (dedup_from E k xs) (k ∷ dedup_from E y xs)) x
        by_test true c d = c
        by_test false c d = contains_tail k (dedup_from E y xs) x d

    pub dedup_in : (xs : List X) (x : X) → Contains xs x → Contains (dedup E xs) x
    dedup_in [] x c = c
    dedup_in (y ∷ xs) x (zero, lt, e) = subst (λ z. Contains (dedup_from E y xs) z) e (dedup_head y xs)
    dedup_in (y ∷ xs) x (suc i, lt, e) = dedup_tail y xs x (i, omega arith, e)

  dedup_from_back : (k : X) (xs : List X) (x : X) → Contains (dedup_from E k xs) x → Contains (k ∷ xs) x
  dedup_from_back k xs x c =
      all_contains (λ y. Contains (k ∷ xs) y) (dedup_from E k xs) x (dedup_all (λ y. Contains (k ∷ xs) y) k xs (in_head k xs) (contains_all (λ y. Contains (k ∷ xs) y) xs (λ y d. contains_tail k xs y d))) c

  pub dedup_back : (xs : List X) (x : X) → Contains (dedup E xs) x → Contains xs x
  dedup_back [] x c = c
  dedup_back (k ∷ xs) x c = dedup_from_back k xs x c

-- no more are left than there were
dedup_from_few : {X : Type 0} (E : X → X → Bool) (k : X) (xs : List X) → length (dedup_from E k xs) ≤ suc (length xs)
dedup_from_few E k [] = omega arith
dedup_from_few E k (x ∷ xs) = by_test (E x k) (dedup_from_few E k xs) (dedup_from_few E x xs)
  where
    by_test : (b : Bool) → length (dedup_from E k xs) ≤ suc (length xs) → length (dedup_from E x xs) ≤ suc (length xs) → length (cond b (dedup_from E k xs) (k ∷ dedup_from E x xs)) ≤ suc (length (x ∷ xs))
    by_test true c d = omega arith
    by_test false c d = omega arith

pub dedup_few : {X : Type 0} (E : X → X → Bool) (xs : List X) → length (dedup E xs) ≤ length xs
dedup_few E [] = omega arith
dedup_few E (x ∷ xs) = let h = dedup_from_few E x xs in omega arith
