-- Laws of literals.
use Rattle.std.proofs.Common.{ℕ, zero, suc, ◌+◌, ◌-◌, ◌*◌, ◌/◌, ◌%◌, ◌<◌, ◌==◌, ◌≡◌, Bool, true, false, not, if◌then◌else◌, refl, ap, sym, ◌∙◌, arith}
use lib.Bits.{bit_xor, xor_shr, xor_mod, xor_zero_r}
use Rattle.lw_aig.specs.declared.literal.Literal.{Literal}
use Rattle.lw_aig.specs.Literals.{complement, literal_value, node_of}

digit_xor : (r : ℕ) → r < 2 → bit_xor r 1 ≡ 1 - r
digit_xor zero h = refl
digit_xor (suc zero) h = refl
digit_xor (suc (suc r)) h = absurd (omega arith)

pub node-complement : (l : Literal) → node_of (complement l) ≡ node_of l
node-complement l = xor_shr l.0 1 1 ∙ xor_zero_r (l.0 / 2)

odd-complement : (l : Literal) → (complement l).0 % 2 ≡ 1 - l.0 % 2
odd-complement l = xor_mod l.0 1 1 ∙ digit_xor (l.0 % 2) (omega arith)

not_not : (b : Bool) → b ≡ not (not b)
not_not true = refl
not_not false = refl

turned_choice : (r : ℕ) → r < 2 → (b : Bool) → (if 1 - r == 0 then b else not b) ≡ not (if r == 0 then b else not b)
turned_choice zero h b = refl
turned_choice (suc zero) h b = not_not b
turned_choice (suc (suc n)) h b = absurd (omega arith)

pub value_of_complement : (v : ℕ → Bool) (l : Literal) → literal_value v (complement l) ≡ not (literal_value v l)
value_of_complement v l =
    ap (λ n. if (complement l).0 % 2 == 0 then v n else not (v n)) (node-complement l)
    ∙ (ap (λ r. if r == 0 then v (node_of l) else not (v (node_of l))) (odd-complement l)
    ∙ turned_choice (l.0 % 2) (omega arith) (v (node_of l)))

-- equal values of its node give a literal equal values
pub value_agrees : (v w : ℕ → Bool) (l : Literal) → v (node_of l) ≡ w (node_of l) → literal_value v l ≡ literal_value w l
value_agrees v w l e = ap (λ b. if l.0 % 2 == 0 then b else not b) e

-- the literal of a node has the node's value
pub value_of_node : (v : ℕ → Bool) (n : ℕ) (l : Literal) → l.0 ≡ 2 * n → literal_value v l ≡ v n
value_of_node v n l e =
    let even : l.0 % 2 ≡ 0 = omega arith in
    let half : l.0 / 2 ≡ n = omega arith in
    ap (λ r. if r == 0 then v (node_of l) else not (v (node_of l))) even ∙ ap v half
