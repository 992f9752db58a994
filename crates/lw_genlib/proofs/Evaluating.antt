-- What the steps of an expression leave: its value under each assignment.
use Rattle.std.proofs.Common.{ℕ, ◌<◌, ◌≤◌, ◌≡◌, ◌^◌, ◌/◌, Bool, false, eqb, List, [], ◌∷◌, length, take, length-take, refl, sym, ap, ◌∙◌, subst, arith, append-nil}
use Rattle.std.specs.Prelude.{slice_index, bit_and}
use native.Mathlib.Decide.{dec_lt}
use Rattle.std.proofs.lemmas.Nat.Bits.{shr_and_one}
use Rattle.std.proofs.lemmas.List.{get_or-take, get_or_past}
use Rattle.lw_laws.specs.Networks.{given}
use Rattle.lw_laws.specs.Expressions.{Expr, expr_value, MentionsPin}
use Rattle.lw_genlib.specs.Postfix.{postfix, literals, IsWide, run}
use Rattle.lw_genlib.specs.Codes.{meaning, run_whole}
use Rattle.lw_genlib.specs.Runs.{CanRun, word_by}
use Rattle.lw_genlib.specs.Words.{bit, pins_at}
use Rattle.lw_genlib.proofs.Running.{can_run}
use Rattle.lw_genlib.proofs.Bits.{word_bit, bit_zero}

pub can_run_whole : (pins : ℕ) (e : Expr) → IsWide e → literals e ≤ 64 → ((k : ℕ) → MentionsPin e k → k < pins) → CanRun pins 0 (postfix e)
can_run_whole pins e wide few below = subst (CanRun pins 0) (append-nil (postfix e)) (can_run pins e [] 0 wide below (omega arith) refl)

first_same : (r s : ℕ) → r ∷ [] ≡ s ∷ [] → r ≡ s
first_same r s e = cc

pub bits_left : (pins : List ℕ) (e : Expr) (r : ℕ) → ((k : ℕ) → slice_index pins k < 2 ^ 64) → run (word_by pins) (postfix e) [] ≡ r ∷ [] → (k : ℕ) → k < 64 → bit k r ≡ expr_value (pins_at k pins) e
bits_left pins e r small left k lt =
    let same : r ≡ meaning (word_by pins) e = first_same r (meaning (word_by pins) e) (sym left ∙ run_whole (word_by pins) e) in
    ap (bit k) same ∙ word_bit pins small k lt e

-- the lowest bit of a word
pub low_bit : (word : ℕ) → eqb (bit_and word 1) 1 ≡ bit 0 word
low_bit word =
    let whole : word ≡ word / 2 ^ 0 = omega arith in
    ap (λ n. eqb n 1) (ap (λ n. bit_and n 1) whole ∙ shr_and_one word 0)

-- a value in the lowest bit of a word each
pub value_in_words : (values : List Bool) (words : List ℕ) (n : ℕ) → n ≡ length values → ((k : ℕ) → k < length values → bit 0 (slice_index words k) ≡ given values k) → (k : ℕ) → pins_at 0 (take n words) k ≡ given values k
value_in_words values words n long same k = at_place (dec_lt k (length values))
  where
    at_place : Dec (k < length values) → pins_at 0 (take n words) k ≡ given values k
    at_place (yes lt) = ap (bit 0) (get_or-take n words k 0 (omega arith)) ∙ same k lt
    at_place (no past) =
        ap (bit 0) (get_or_past (take n words) k 0 (omega (arith, length-take n words)))
        ∙ (bit_zero 0 (omega arith) ∙ sym (get_or_past values k false (omega arith)))
