-- Truth tables.
use Rattle.std.proofs.Common.{ℕ, zero, suc, ◌+◌, ◌^◌, ◌≡◌, ◌<◌, ◌≤◌, Bool, true, false, ◌&&◌, refl, ap, ◌∙◌, subst, arith}
use Rattle.std.specs.List.{list_all, range_with_len}
use Rattle.std.proofs.lemmas.Bool.{and_parts}
use native.Mathlib.Decide.{dec_lt}
use Rattle.lw_laws.specs.Expressions.{Expr, expr_value, MentionsPin}
use Rattle.lw_genlib.specs.Cells.{HaveOneTruth}
use Rattle.lw_genlib.specs.Words.{assigned}
use Rattle.lw_genlib.specs.Merging.{is_same, have_same_table}
use Rattle.lw_genlib.proofs.Assignments.{truth_below}

same-true : (a b : Bool) → a ≡ b → is_same a b ≡ true
same-true true true e = refl
same-true true false e = cc
same-true false true e = cc
same-true false false e = refl

true-same : (a b : Bool) → is_same a b ≡ true → a ≡ b
true-same true true e = refl
true-same true false e = cc
true-same false true e = cc
true-same false false e = refl

all-range : (p : ℕ → Bool) (a n : ℕ) → ((k : ℕ) → p k ≡ true) → list_all p (range_with_len a n) ≡ true
all-range p a zero h = refl
all-range p a (suc n) h = ap (λ b. b && list_all p (range_with_len (a + 1) n)) (h a) ∙ all-range p (a + 1) n h

range-all : (p : ℕ → Bool) (a n k : ℕ) → list_all p (range_with_len a n) ≡ true → a ≤ k → k < a + n → p k ≡ true
range-all p a zero k h low high = absurd (omega arith)
range-all p a (suc n) k h low high =
    at (dec_lt a k) (λ le. range-all p (a + 1) n k (and_parts (p a) (list_all p (range_with_len (a + 1) n)) h).1 le (omega arith))
  where
    at : Dec (a < k) → (a + 1 ≤ k → p k ≡ true) → p k ≡ true
    at (yes less) others = others (omega arith)
    at (no more) others = let same : a ≡ k = omega arith in subst (λ j. p j ≡ true) same (and_parts (p a) (list_all p (range_with_len (a + 1) n)) h).0

pub table-of_truth : (pins : ℕ) (e f : Expr) → HaveOneTruth e f → have_same_table pins e f ≡ true
unfolding have_same_table
table-of_truth pins e f h = all-range _ 0 (2 ^ pins) (λ k. same-true (expr_value (assigned k) e) (expr_value (assigned k) f) (h (assigned k)))

pub truth-of_table : (pins : ℕ) (e f : Expr) → ((k : ℕ) → MentionsPin e k → k < pins) → ((k : ℕ) → MentionsPin f k → k < pins) → have_same_table pins e f ≡ true → HaveOneTruth e f
unfolding have_same_table
truth-of_table pins e f over also h =
    truth_below e f pins over also (λ n lt. true-same (expr_value (assigned n) e) (expr_value (assigned n) f) (range-all _ 0 (2 ^ pins) n h (omega arith) (omega arith)))

-- a test that is true where they have one truth
pub table-test : (pins : ℕ) (e f : Expr) → ((k : ℕ) → MentionsPin e k → k < pins) → ((k : ℕ) → MentionsPin f k → k < pins) → (HaveOneTruth e f → ⊥) → have_same_table pins e f ≡ false
table-test pins e f over also fails = at (have_same_table pins e f) refl
  where
    at : (b : Bool) → have_same_table pins e f ≡ b → b ≡ false
    at true is = absurd (fails (truth-of_table pins e f over also is))
    at false is = refl
