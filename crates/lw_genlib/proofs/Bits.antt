-- The bits of a word that an expression gives: its value under each assignment.
use Rattle.std.proofs.Common.{ℕ, ◌-◌, ◌<◌, ◌≡◌, ◌^◌, Bool, true, false, not, ◌&&◌, ◌||◌, eqb, List, [], ◌∷◌, refl, sym, ap, ap₂, ◌∙◌, arith}
use Rattle.std.specs.Prelude.{bit_and, bit_or, fold, slice_index}
use Rattle.std.specs.List.{AllByRecursion}
use Rattle.std.specs.Int.{bit_at, bit_not, w64}
use Rattle.std.specs.Int.Bits.{and_lt}
use Rattle.std.proofs.lemmas.Nat.{or_lt}
use Rattle.std.proofs.lemmas.Nat.Bits.{bit_at_and, bit_at_or, bit_at_not, bit_at_ones, bit_at-zero, bit_at-lt}
use Rattle.std.proofs.Math.Bool.{and-true, or-false, and_assoc, or_assoc}
use Rattle.lw_facts.proofs.Numbers.{min_bit, max_bit, not_bit}
use Rattle.lw_laws.specs.Expressions.{Expr, Exprs, expr_value, all_true, some_true}
use Rattle.lw_laws.specs.Expressions.Expr.{expr_const, expr_pin, expr_not, expr_and, expr_or}
use Rattle.lw_laws.specs.Expressions.Exprs.{no_exprs, more_exprs}
use Rattle.lw_genlib.specs.Codes.{meaning, meanings}
use Rattle.lw_genlib.specs.Runs.{word_by}
use Rattle.lw_genlib.specs.Words.{bit, pins_at}

module _ (k : ℕ) (lt : k < 64) where
  pub bit_and_is : (a b : ℕ) → bit k (bit_and a b) ≡ (bit k a && bit k b)
  bit_and_is a b = min_bit (bit_at a k) (bit_at b k) _ (bit_at_and a b k) (bit_at-lt a k) (bit_at-lt b k)

  pub bit_or_is : (a b : ℕ) → bit k (bit_or a b) ≡ (bit k a || bit k b)
  bit_or_is a b = max_bit (bit_at a k) (bit_at b k) _ (bit_at_or a b k) (bit_at-lt a k) (bit_at-lt b k)

  pub bit_not_is : (a : ℕ) → a < 2 ^ 64 → bit k (bit_not w64 a) ≡ not (bit k a)
  bit_not_is a small = not_bit (bit_at a k) _ (bit_at_not w64 a k small lt) (bit_at-lt a k)

  pub bit_ones : bit k (2 ^ 64 - 1) ≡ true
  bit_ones = ap (λ x. eqb x 1) (bit_at_ones 64 k lt)

  pub bit_zero : bit k 0 ≡ false
  bit_zero = ap (λ x. eqb x 1) (bit_at-zero k)

module _ (pins : List ℕ) (small : (p : ℕ) → slice_index pins p < 2 ^ 64) where
  fold_and_small : (ws : List ℕ) (a : ℕ) → a < 2 ^ 64 → AllByRecursion (λ w. w < 2 ^ 64) ws → fold bit_and a ws < 2 ^ 64
  fold_and_small [] a lt all = lt
  fold_and_small (w ∷ ws) a lt all = fold_and_small ws (bit_and a w) (and_lt 64 a w lt all.0) all.1

  fold_or_small : (ws : List ℕ) (a : ℕ) → a < 2 ^ 64 → AllByRecursion (λ w. w < 2 ^ 64) ws → fold bit_or a ws < 2 ^ 64
  fold_or_small [] a lt all = lt
  fold_or_small (w ∷ ws) a lt all = fold_or_small ws (bit_or a w) (or_lt 64 a w lt all.0) all.1

  mutual
    word_small : (e : Expr) → meaning (word_by pins) e < 2 ^ 64
    word_small (expr_const true) = omega arith
    word_small (expr_const false) = omega arith
    word_small (expr_pin p) = small p
    word_small (expr_not e) = omega arith
    word_small (expr_and es) = fold_and_small (meanings (word_by pins) es) (2 ^ 64 - 1) (omega arith) (words_small es)
    word_small (expr_or es) = fold_or_small (meanings (word_by pins) es) 0 (omega arith) (words_small es)

    words_small : (es : Exprs) → AllByRecursion (λ w. w < 2 ^ 64) (meanings (word_by pins) es)
    words_small no_exprs = tt
    words_small (more_exprs e es) = (word_small e, words_small es)

  module _ (k : ℕ) (lt : k < 64) where
    mutual
      pub word_bit : (e : Expr) → bit k (meaning (word_by pins) e) ≡ expr_value (pins_at k pins) e
      word_bit (expr_const true) = bit_ones k lt
      word_bit (expr_const false) = bit_zero k lt
      word_bit (expr_pin p) = refl
      word_bit (expr_not e) = bit_not_is k lt (meaning (word_by pins) e) (word_small e) ∙ ap not (word_bit e)
      word_bit (expr_and es) = and_bits es (2 ^ 64 - 1) ∙ ap (λ b. b && all_true (pins_at k pins) es) (bit_ones k lt)
      word_bit (expr_or es) = or_bits es 0 ∙ ap (λ b. b || some_true (pins_at k pins) es) (bit_zero k lt)

      and_bits : (es : Exprs) (a : ℕ) → bit k (fold bit_and a (meanings (word_by pins) es)) ≡ (bit k a && all_true (pins_at k pins) es)
      and_bits no_exprs a = sym (and-true (bit k a))
      and_bits (more_exprs e es) a =
          and_bits es (bit_and a (meaning (word_by pins) e))
          ∙ (ap (λ b. b && all_true (pins_at k pins) es) (bit_and_is k lt a (meaning (word_by pins) e) ∙ ap (λ v. bit k a && v) (word_bit e))
          ∙ and_assoc (bit k a) (expr_value (pins_at k pins) e) (all_true (pins_at k pins) es))

      or_bits : (es : Exprs) (a : ℕ) → bit k (fold bit_or a (meanings (word_by pins) es)) ≡ (bit k a || some_true (pins_at k pins) es)
      or_bits no_exprs a = sym (or-false (bit k a))
      or_bits (more_exprs e es) a =
          or_bits es (bit_or a (meaning (word_by pins) e))
          ∙ (ap (λ b. b || some_true (pins_at k pins) es) (bit_or_is k lt a (meaning (word_by pins) e) ∙ ap (λ v. bit k a || v) (word_bit e))
          ∙ or_assoc (bit k a) (expr_value (pins_at k pins) e) (some_true (pins_at k pins) es))

-- equal values of the pins give equal values
module _ (y z : ℕ → Bool) (same : (k : ℕ) → y k ≡ z k) where
  mutual
    pub value_same : (e : Expr) → expr_value y e ≡ expr_value z e
    value_same (expr_const b) = refl
    value_same (expr_pin k) = same k
    value_same (expr_not e) = ap not (value_same e)
    value_same (expr_and es) = all_same es
    value_same (expr_or es) = some_same es

    all_same : (es : Exprs) → all_true y es ≡ all_true z es
    all_same no_exprs = refl
    all_same (more_exprs e es) = ap₂ (λ a b. a && b) (value_same e) (all_same es)

    some_same : (es : Exprs) → some_true y es ≡ some_true z es
    some_same no_exprs = refl
    some_same (more_exprs e es) = ap₂ (λ a b. a || b) (value_same e) (some_same es)
