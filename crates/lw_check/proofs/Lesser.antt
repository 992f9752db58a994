-- The least number with one of two properties.
use Rattle.std.proofs.Common.{ℕ, ◌<◌, ◌≤◌, ◌≡◌, ◌⊎◌, inl, inr, Bool, true, false, cond, ltb, nat_eq, Option, Some, None, refl, sym, ◌∙◌, arith}
use Rattle.std.proofs.lemmas.Bool.Decides.{nat_tests}
use native.Mathlib.Decide.{dec_lt}
use Rattle.std.proofs.lemmas.Bool.{ltb-false}
use Rattle.lw_check.specs.Least.{IsLeastOf, lesser_of}

below : (a b : ℕ) → ltb b a ≡ true → b ≤ a
below a b e = grind (arith, nat_tests)

pub same_number : (a b : ℕ) (t : Bool) → t ≡ nat_eq a b → t ≡ true → a ≡ b
same_number a b t is e = let f : nat_eq a b ≡ true = sym is ∙ e in grind (arith, nat_tests)

pub other_number : (a b : ℕ) (t : Bool) → t ≡ nat_eq a b → t ≡ false → a ≡ b → ⊥
other_number a b t is e same = let f : nat_eq a b ≡ false = sym is ∙ e in grind (arith, nat_tests)

module _ (P Q : ℕ → Type 0) where
  pub lesser_least : (a b : Option ℕ) → IsLeastOf P a → IsLeastOf Q b → IsLeastOf (λ n. P n ⊎ Q n) (lesser_of a b)
  lesser_least None None p q = λ n h. elim h [ inl i ↦ p n i | inr j ↦ q n j ]
  lesser_least None (Some b) p (at, q) = (inr at, λ n h. elim h [ inl i ↦ absurd (p n i) | inr j ↦ q n j ])
  lesser_least (Some a) None (at, p) q = (inl at, λ n h. elim h [ inl i ↦ p n i | inr j ↦ absurd (q n j) ])
  lesser_least (Some a) (Some b) (at, p) (bt, q) = by_test (ltb b a) refl
    where
      by_test : (t : Bool) → ltb b a ≡ t → IsLeastOf (λ n. P n ⊎ Q n) (cond t (Some b) (Some a))
      by_test true e = (inr bt, λ n h. elim h [ inl i ↦ (let le = p n i in let lt = below a b e in omega arith) | inr j ↦ q n j ])
      by_test false e = (inl at, λ n h. elim h [ inl i ↦ p n i | inr j ↦ (let le = q n j in let ge = ltb-false b a e in omega arith) ])

  -- the same property in other words
  pub least_same : (o : Option ℕ) → ((n : ℕ) → P n → Q n) → ((n : ℕ) → Q n → P n) → IsLeastOf P o → IsLeastOf Q o
  least_same None there back none = λ n h. none n (back n h)
  least_same (Some m) there back (at, least) = (there m at, λ n h. least n (back n h))

-- the first number that has a property
pub first_least : (P : ℕ → Type 0) (n : ℕ) → P n → ((m : ℕ) → m < n → P m → ⊥) → IsLeastOf P (Some n)
first_least P n at before = (at, λ m h. by_order m h (dec_lt m n))
  where
    by_order : (m : ℕ) → P m → Dec (m < n) → n ≤ m
    by_order m h (yes lt) = absurd (before m lt h)
    by_order m h (no ge) = omega arith
