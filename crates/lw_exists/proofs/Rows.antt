-- The row of the pairs with a property that can be decided.
use Rattle.std.proofs.Common.{ℕ, zero, suc, ◌+◌, ◌<◌, ◌≤◌, ◌≡◌, ◌⊎◌, ◌↔◌, inl, inr, List, [], ◌∷◌, Contains, refl, ap₂, sym, subst, arith}
use Rattle.std.specs.List.{AllByRecursion}
use native.Mathlib.Decide.{dec_lt}
use native.Mathlib.Nat.{eq-or-lt_of_le}
use Rattle.lw_laws.specs.Graphs.{Pair, IsPairBefore, AreRising}
use Rattle.lw_facts.proofs.Lists.{contains_tail}
use Rattle.lw_laws.proofs.Lists.{all_contains}

all_weaker : {X : Type 0} (P Q : X → Type 0) → ((x : X) → P x → Q x) → (xs : List X) → AllByRecursion P xs → AllByRecursion Q xs
all_weaker P Q f [] a = tt
all_weaker P Q f (x ∷ xs) (p, a) = (f x p, all_weaker P Q f xs a)

module _ (P : ℕ → ℕ → Type 0) (n : ℕ) (d : (x y : ℕ) → x < n → y < n → P x y ⊎ (P x y → ⊥)) where
  -- the pair does not come before this one
  abbrev IsFrom : ℕ → ℕ → Pair → Type 0
  IsFrom a b p = (a < p.x) ⊎ ((a ≡ p.x) × (b ≤ p.y))

  abbrev pub IsOfRow : Pair → Type 0
  IsOfRow p = (p.x ≤ p.y) × (p.y < n) × P p.x p.y

  -- the pairs of the row from here on: they rise, each is of the row, and each of the row is one
  abbrev AreFrom : ℕ → ℕ → List Pair → Type 0
  AreFrom a b ps =
      AreRising ps × AllByRecursion (λ p. IsFrom a b p × IsOfRow p) ps
      × ((p : Pair) → IsFrom a b p → IsOfRow p → Contains ps p)

  abbrev at : ℕ → ℕ → Pair
  at a b = record { x = a; y = b }

  here_or_later : (a b : ℕ) (p : Pair) → IsFrom a b p → (at a b ≡ p) ⊎ IsFrom a (suc b) p
  here_or_later a b p (inl l) = inr (inl l)
  here_or_later a b p (inr (e, le)) = by_place (eq-or-lt_of_le {n = b} {m = p.y} le)
    where
      by_place : (b ≡ p.y) ⊎ (b < p.y) → (at a b ≡ p) ⊎ IsFrom a (suc b) p
      by_place (inl f) = inl (ap₂ (λ x y. record { x = x; y = y }) e f)
      by_place (inr l) = inr (inr (e, omega arith))

  earlier : (a b : ℕ) (p : Pair) → IsFrom a (suc b) p → IsFrom a b p
  earlier a b p (inl l) = inl l
  earlier a b p (inr (e, le)) = inr (e, omega arith)

  after : (a b : ℕ) (p : Pair) → IsFrom a (suc b) p → IsPairBefore (at a b) p
  after a b p (inl l) = inl l
  after a b p (inr (e, le)) = inr (e, omega arith)

  kept : (a b : ℕ) (ps : List Pair) → (IsOfRow (at a b) → ⊥) → AreFrom a (suc b) ps → AreFrom a b ps
  kept a b ps out (rises, are, all) =
      (rises, all_weaker (λ p. IsFrom a (suc b) p × IsOfRow p) (λ p. IsFrom a b p × IsOfRow p) (λ p (f, r). (earlier a b p f, r)) ps are, λ p f r. by_place p r (here_or_later a b p f))
    where
      by_place : (p : Pair) → IsOfRow p → (at a b ≡ p) ⊎ IsFrom a (suc b) p → Contains ps p
      by_place p r (inl e) = absurd (out (subst IsOfRow (sym e) r))
      by_place p r (inr f) = all p f r

  more : (a b : ℕ) (ps : List Pair) → IsOfRow (at a b) → AreFrom a (suc b) ps → AreFrom a b (at a b ∷ ps)
  more a b ps own (rises, are, all) = (
    (own.0, all_weaker (λ p. IsFrom a (suc b) p × IsOfRow p) (IsPairBefore (at a b)) (λ p (f, r). after a b p f) ps are, rises),
    ((inr (refl, omega arith), own), all_weaker (λ p. IsFrom a (suc b) p × IsOfRow p) (λ p. IsFrom a b p × IsOfRow p) (λ p (f, r). (earlier a b p f, r)) ps are),
    λ p f r. by_place p r (here_or_later a b p f),
  )
    where
      by_place : (p : Pair) → IsOfRow p → (at a b ≡ p) ⊎ IsFrom a (suc b) p → Contains (at a b ∷ ps) p
      by_place p r (inl e) = (0, omega arith, e)
      by_place p r (inr f) = contains_tail (at a b) ps p (all p f r)

  abbrev SomeFrom : ℕ → ℕ → Type 0
  SomeFrom a b = (ps : List Pair) × AreFrom a b ps

  decide : (a b : ℕ) → b < n → IsOfRow (at a b) ⊎ (IsOfRow (at a b) → ⊥)
  decide a b lt = by_order (dec_lt b a)
    where
      by_test : a ≤ b → P a b ⊎ (P a b → ⊥) → IsOfRow (at a b) ⊎ (IsOfRow (at a b) → ⊥)
      by_test le (inl p) = inl (le, lt, p)
      by_test le (inr out) = inr (λ r. out r.2)

      by_order : Dec (b < a) → IsOfRow (at a b) ⊎ (IsOfRow (at a b) → ⊥)
      by_order (yes l) = inr (λ r. let le = r.0 in omega arith)
      by_order (no l) = by_test (omega arith) (d a b (omega arith) lt)

  one_more : (a b : ℕ) → b < n → SomeFrom a (suc b) → SomeFrom a b
  one_more a b lt (ps, from) = by_test (decide a b lt)
    where
      by_test : IsOfRow (at a b) ⊎ (IsOfRow (at a b) → ⊥) → SomeFrom a b
      by_test (inl own) = (at a b ∷ ps, more a b ps own from)
      by_test (inr out) = (ps, kept a b ps out from)

  lower : (k a b : ℕ) → b + k ≡ n → SomeFrom a n → SomeFrom a b
  lower zero a b e s = let f : n ≡ b = omega arith in subst (SomeFrom a) f s
  lower (suc k) a b e s = one_more a b (omega arith) (lower k a (suc b) (omega arith) s)

  next_first : (a : ℕ) → SomeFrom (suc a) 0 → SomeFrom a n
  next_first a (ps, (rises, are, all)) =
      (ps, (rises, all_weaker (λ p. IsFrom (suc a) 0 p × IsOfRow p) (λ p. IsFrom a n p × IsOfRow p) (λ p (f, r). (inl (first p f), r)) ps are, λ p f r. all p (later p r f) r))
    where
      first : (p : Pair) → IsFrom (suc a) 0 p → a < p.x
      first p (inl l) = omega arith
      first p (inr (e, le)) = omega arith

      by_order : (p : Pair) → (suc a ≡ p.x) ⊎ (suc a < p.x) → IsFrom (suc a) 0 p
      by_order p (inl e) = inr (e, omega arith)
      by_order p (inr l) = inl l

      later : (p : Pair) → IsOfRow p → IsFrom a n p → IsFrom (suc a) 0 p
      later p r (inl l) = by_order p (eq-or-lt_of_le {n = suc a} {m = p.x} (omega arith))
      later p r (inr (e, le)) = let lt = r.1 in absurd (omega arith)

  from_first : (k a : ℕ) → a + k ≡ n → SomeFrom a 0
  from_first zero a e = ([], (tt, tt, λ p f r. absurd (past p r.0 r.1 f)))
    where
      past : (p : Pair) → p.x ≤ p.y → p.y < n → IsFrom a 0 p → ⊥
      past p le lt (inl l) = omega arith
      past p le lt (inr (s, l)) = omega arith
  from_first (suc k) a e = lower n a 0 (omega arith) (next_first a (from_first k (suc a) (omega arith)))

  -- the row rises, and holds the pairs with the property
  pub some_row : (ps : List Pair) × AreRising ps × ((p : Pair) → Contains ps p ↔ IsOfRow p)
  some_row =
      let (ps, (rises, are, all)) = from_first n 0 (omega arith) in
      (ps, rises, λ p. (λ c. (all_contains (λ q. IsFrom 0 0 q × IsOfRow q) ps p are c).1, λ r. all p (by_order p (eq-or-lt_of_le {n = 0} {m = p.x} (omega arith))) r))
    where
      by_order : (p : Pair) → (0 ≡ p.x) ⊎ (0 < p.x) → IsFrom 0 0 p
      by_order p (inl e) = inr (e, omega arith)
      by_order p (inr l) = inl l
