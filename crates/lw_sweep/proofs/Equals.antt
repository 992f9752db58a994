-- Literals that are equal in each graph that has both.
use Rattle.std.proofs.Common.{ℕ, ◌*◌, ◌/◌, ◌%◌, ◌==◌, ◌<◌, ◌≡◌, Bool, true, false, not, ◌&&◌, if◌then◌else◌, Some, List, [], ◌∷◌, ◌++◌, length, slice_get, refl, sym, ◌∙◌, ap, subst, arith}
use Rattle.lw_facts.proofs.Lists.{get_last}
use Rattle.lw_aig.specs.declared.gate.Gate.{Gate}
use Rattle.lw_aig.specs.declared.gate.Gate.TheVariants.{And}
use Rattle.lw_aig.specs.declared.literal.Literal.{Literal}
use Rattle.lw_aig.specs.Aigs.{AreEqual, AreNodeValues, IsBelow, IsConjunction}
use Rattle.lw_aig.specs.Literals.{complement, literal_value}
use Rattle.std.proofs.lemmas.Option.{slice_get_within}
use Rattle.lw_aig.proofs.Literals.{node-complement, value_of_complement, value_of_node}
use Rattle.lw_sweep.specs.Sweeps.{IsExtended, StandsFor}
use Rattle.lw_sweep.proofs.Growing.{stands_conjunction, values_before}
use Rattle.lw_sweep.proofs.Standing.{own_stands}

pub equal_itself : (gates : List Gate) (l : Literal) → AreEqual gates l l
equal_itself gates l = record { always = λ v values. refl }

pub equal_turned : (gates : List Gate) (l m : Literal) → AreEqual gates l m → AreEqual gates m l
equal_turned gates l m e = record { always = λ v values. sym (e.always v values) }

pub equal_both : (gates : List Gate) (l m n : Literal) → AreEqual gates l m → AreEqual gates m n → AreEqual gates l n
equal_both gates l m n e f = record { always = λ v values. e.always v values ∙ f.always v values }

pub equal_later : (old new : List Gate) (l m : Literal) → IsExtended old new → AreEqual old l m → AreEqual new l m
equal_later old new l m extended e = record { always = λ v values. e.always v (values_before old new v extended values) }

module _ (gates : List Gate) (v : ℕ → Bool) where
  even_value : (l : Literal) → l.0 % 2 ≡ 0 → literal_value v l ≡ v (l.0 / 2)
  even_value l e = ap (λ r. if r == 0 then v (l.0 / 2) else not (v (l.0 / 2))) e

  odd_value : (l : Literal) → l.0 % 2 ≡ 1 → literal_value v l ≡ not (v (l.0 / 2))
  odd_value l e = ap (λ r. if r == 0 then v (l.0 / 2) else not (v (l.0 / 2))) e

-- what stands for a literal's node, turned as the literal is
pub stand_even : (gates : List Gate) (l s : Literal) (n : ℕ) → n ≡ l.0 / 2 → StandsFor gates n s → l.0 % 2 ≡ 0 → AreEqual gates s l
stand_even gates l s n e stands even = record {
  always = λ v values. stands.always v values ∙ (ap v e ∙ sym (even_value gates v l even));
}

pub stand_odd : (gates : List Gate) (l s turned : Literal) (n : ℕ) → n ≡ l.0 / 2 → turned ≡ complement s → StandsFor gates n s → l.0 % 2 ≡ 1 → AreEqual gates turned l
stand_odd gates l s turned n e t stands odd = record {
  always = λ v values.
      ap (literal_value v) t
      ∙ (value_of_complement v s ∙ (ap not (stands.always v values ∙ ap v e) ∙ sym (odd_value gates v l odd)));
}

-- and back
pub equal_stands_even : (gates : List Gate) (l s : Literal) (n : ℕ) → n ≡ l.0 / 2 → IsBelow (length gates) s → AreEqual gates s l → l.0 % 2 ≡ 0 → StandsFor gates n s
equal_stands_even gates l s n e low equal even = record {
  within = low;
  always = λ v values. equal.always v values ∙ (even_value gates v l even ∙ ap v (sym e));
}

not_twice : (a b : Bool) → a ≡ not b → not a ≡ b
not_twice true true e = cc
not_twice true false e = refl
not_twice false true e = refl
not_twice false false e = cc

pub equal_stands_odd : (gates : List Gate) (l s turned : Literal) (n : ℕ) → n ≡ l.0 / 2 → turned ≡ complement s → IsBelow (length gates) s → AreEqual gates s l → l.0 % 2 ≡ 1 → StandsFor gates n turned
equal_stands_odd gates l s turned n e t low equal odd = record {
  within = subst (λ m. m.0 / 2 < length gates) (sym t) (subst (λ k. k < length gates) (sym (node-complement s)) low);
  always = λ v values.
      ap (literal_value v) t
      ∙ (value_of_complement v s ∙ (not_twice (literal_value v s) (v (l.0 / 2)) (equal.always v values ∙ odd_value gates v l odd) ∙ ap v (sym e)));
}

-- what is equal to what stands for a node is equal to its own literal
pub equal_own : (gates : List Gate) (n : ℕ) (own s t : Literal) → own.0 ≡ 2 * n → StandsFor gates n s → AreEqual gates t s → AreEqual gates t own
equal_own gates n own s t e stands equal = record {
  always = λ v values. equal.always v values ∙ (stands.always v values ∙ sym (value_of_node v n own e));
}

-- a conjunction of literals that are equal to its sides
pub equal_conjunction : (old new : List Gate) (n : ℕ) (a b a' b' l s own : Literal) → slice_get old n ≡ Some (And a b) → own.0 ≡ 2 * n → AreEqual old a' a → AreEqual old b' b → IsExtended old new → IsConjunction new a' b' l → AreEqual new s l → AreEqual new s own
equal_conjunction old new n a b a' b' l s own at e left right extended both equal = record {
  always = λ v values.
      let before = values_before old new v extended values in
      equal.always v values
      ∙ (both.always v values
      ∙ (ap (λ c. c && literal_value v b') (left.always v before)
      ∙ (ap (λ c. literal_value v a && c) (right.always v before)
      ∙ (sym (values.allowed n (And a b) (extended.kept n (And a b) at)) ∙ sym (value_of_node v n own e)))));
}

-- a gate's own literal is its conjunction
pub own_conjunction : (gates : List Gate) (n : ℕ) (a b own : Literal) → slice_get gates n ≡ Some (And a b) → own.0 ≡ 2 * n → IsConjunction gates a b own
own_conjunction gates n a b own at e =
    let low = slice_get_within gates n (And a b) at in
    stands_conjunction gates n a b own at (own_stands gates n own low e)

-- the gate at the end has its own literal
pub pushed_own : (gates new : List Gate) (n : ℕ) (a b own : Literal) → new ≡ gates ++ And a b ∷ [] → n ≡ length gates → own.0 ≡ 2 * n → IsConjunction new a b own
pushed_own gates new n a b own e at is =
    own_conjunction new n a b own (ap (λ gs. slice_get gs n) e ∙ (ap (slice_get (gates ++ And a b ∷ [])) at ∙ get_last gates (And a b))) is

-- an equal of a literal that was found to be equal to another
pub equal_adopted : (old new : List Gate) (l m s : Literal) → new ≡ old → AreEqual old l m → AreEqual new s m → AreEqual new s l
equal_adopted old new l m s e same equal = record {
  always = λ v values. equal.always v values ∙ sym (same.always v (subst (λ gates. AreNodeValues gates v) e values));
}

pub equal_adopted_by : (old new : List Gate) (own through other s : Literal) → new ≡ old → AreEqual old own through → AreEqual old through other → AreEqual new s other → AreEqual new s own
equal_adopted_by old new own through other s e f g equal = equal_adopted old new own other s e (equal_both old own through other f g) equal
