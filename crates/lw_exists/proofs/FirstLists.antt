-- A property of lists of one length that some list has cannot fail to have a first list, in the order of words.
use Rattle.std.proofs.Common.{ℕ, zero, suc, ◌<◌, ◌≤◌, ◌≡◌, ◌⊎◌, inl, inr, List, [], ◌∷◌, length, sym, subst, arith}
use native.Mathlib.Nat.{eq-or-lt_of_le}
use Rattle.lw_laws.specs.Extracts.{IsListAtMost}
use Rattle.lw_exists.specs.Weakly.{Weakly}
use Rattle.lw_exists.proofs.Weak.{sure, and_then, weaker, weak_least}

abbrev pub IsFirstList : (List ℕ → Type 0) → List ℕ → Type 0
IsFirstList P ys = P ys × ((zs : List ℕ) → P zs → IsListAtMost ys zs)

pub weak_first : (n : ℕ) (P : List ℕ → Type 0) → ((xs : List ℕ) → P xs → length xs ≡ n) → (xs : List ℕ) → P xs → Weakly ((ys : List ℕ) × IsFirstList P ys)
weak_first zero P len [] p = sure ([], (p, λ zs q. tt))
weak_first zero P len (x ∷ xs) p = let e = len (x ∷ xs) p in absurd (omega arith)
weak_first (suc n) P len [] p = let e = len [] p in absurd (omega arith)
weak_first (suc n) P len (x ∷ xs) p = and_then (weak_least Heads x (xs, p)) (by_head (weak_first n))
  where
    Heads : ℕ → Type 0
    Heads h = (t : List ℕ) × P (h ∷ t)

    by_first : (h z : ℕ) (ys zs : List ℕ) → ((t : List ℕ) → P (h ∷ t) → IsListAtMost ys t) → P (z ∷ zs) → (h ≡ z) ⊎ (h < z) → (h < z) ⊎ ((h ≡ z) × IsListAtMost ys zs)
    by_first h z ys zs firsts q (inl e) = inr (e, firsts zs (subst (λ k. P (k ∷ zs)) (sym e) q))
    by_first h z ys zs firsts q (inr l) = inl l

    before : (h : ℕ) (ys : List ℕ) → ((k : ℕ) → Heads k → h ≤ k) → ((t : List ℕ) → P (h ∷ t) → IsListAtMost ys t) → (zs : List ℕ) → P zs → IsListAtMost (h ∷ ys) zs
    before h ys least firsts [] q = let e = len [] q in absurd (omega arith)
    before h ys least firsts (z ∷ zs) q =
        by_first h z ys zs firsts q (eq-or-lt_of_le {n = h} {m = z} (least z (zs, q)))

    by_head : ((Q : List ℕ → Type 0) → ((xs : List ℕ) → Q xs → length xs ≡ n) → (xs : List ℕ) → Q xs → Weakly ((ys : List ℕ) × IsFirstList Q ys)) → (h : ℕ) × Heads h × ((k : ℕ) → Heads k → h ≤ k) → Weakly ((ys : List ℕ) × IsFirstList P ys)
    by_head rest (h, (t, q), least) =
        weaker (λ (ys, (r, firsts)). (h ∷ ys, (r, before h ys least firsts))) (rest (λ ys. P (h ∷ ys)) (λ ys r. let e = len (h ∷ ys) r in omega arith) t q)
