-- Conjunctions that need no node.
use Rattle.std.proofs.Common.{ℕ, ◌≡◌, Bool, true, false, not, ◌&&◌, refl, ap, sym, ◌∙◌, List, arith}
use Rattle.std.proofs.lemmas.Option.{slice_get_within}
use Rattle.std.proofs.Math.Bool.{and-true}
use Rattle.lw_aig.specs.declared.gate.Gate.{Gate}
use Rattle.lw_aig.specs.declared.gate.Gate.TheVariants.{Zero}
use Rattle.lw_aig.specs.declared.literal.Literal.{Literal}
use Rattle.lw_aig.specs.Aigs.{AreNodeValues, IsAig}
use Rattle.lw_aig.specs.Literals.{complement, literal_value}
use Rattle.lw_aig.proofs.Literals.{value_of_complement}
use Rattle.lw_sweep.specs.Sweeps.{IsAlwaysConjunction}

with_itself : (b : Bool) → b ≡ (b && b)
with_itself true = refl
with_itself false = refl

with_complement : (b : Bool) → false ≡ (not b && b)
with_complement true = refl
with_complement false = refl

with_false : (b : Bool) → false ≡ (b && false)
with_false true = refl
with_false false = refl

module _ (gates : List Gate) (aig : IsAig gates) (v : ℕ → Bool) (values : AreNodeValues gates v) where
  zero_value : (l : Literal) → l.0 ≡ 0 → literal_value v l ≡ false
  zero_value l e = ap (λ n. literal_value v (record { 0 = n })) e ∙ values.allowed 0 Zero aig.zero_first

  one_value : (l : Literal) → l.0 ≡ 1 → literal_value v l ≡ true
  one_value l e = ap (λ n. literal_value v (record { 0 = n })) e ∙ ap not (values.allowed 0 Zero aig.zero_first)

pub same_conjunction : (left right : Literal) → left ≡ right → IsAlwaysConjunction left right left
same_conjunction left right e gates aig low high = record {
  within = low;
  always = λ v values. with_itself (literal_value v left) ∙ ap (λ r. literal_value v left && literal_value v r) e;
}

pub opposite_conjunction : (left right other zero' : Literal) → left ≡ other → other ≡ complement right → zero'.0 ≡ 0 → IsAlwaysConjunction left right zero'
opposite_conjunction left right other zero' e f z gates aig low high =
    let first = slice_get_within gates 0 Zero aig.zero_first in
    record {
      within = omega arith;
      always = λ v values.
          zero_value gates aig v values zero' z
          ∙ (with_complement (literal_value v right) ∙ ap (λ b. b && literal_value v right) (sym (ap (literal_value v) (e ∙ f) ∙ value_of_complement v right)));
    }

pub left_zero : (left right : Literal) → left.0 ≡ 0 → IsAlwaysConjunction left right left
left_zero left right e gates aig low high = record {
  within = low;
  always = λ v values. zero_value gates aig v values left e ∙ ap (λ b. b && literal_value v right) (sym (zero_value gates aig v values left e));
}

pub right_zero : (left right : Literal) → right.0 ≡ 0 → IsAlwaysConjunction left right right
right_zero left right e gates aig low high = record {
  within = high;
  always = λ v values. zero_value gates aig v values right e ∙ (with_false (literal_value v left) ∙ ap (λ b. literal_value v left && b) (sym (zero_value gates aig v values right e)));
}

pub left_one : (left right : Literal) → left.0 ≡ 1 → IsAlwaysConjunction left right right
left_one left right e gates aig low high = record {
  within = high;
  always = λ v values. ap (λ b. b && literal_value v right) (sym (one_value gates aig v values left e));
}

pub right_one : (left right : Literal) → right.0 ≡ 1 → IsAlwaysConjunction left right left
right_one left right e gates aig low high = record {
  within = low;
  always = λ v values. sym (and-true (literal_value v left)) ∙ ap (λ b. literal_value v left && b) (sym (one_value gates aig v values right e));
}
