-- Graphs that grow at their end.
use Rattle.std.proofs.Common.{ℕ, ◌≡◌, Bool, Some, List, [], ◌∷◌, ◌++◌, length, slice_get, refl, sym, ◌∙◌, subst, arith, ap, ◌&&◌, true, false}
use Rattle.std.proofs.lemmas.List.{length_push}
use Rattle.lw_facts.proofs.Lists.{get_left, get_last}
use Rattle.lw_aig.specs.declared.gate.Gate.{Gate}
use Rattle.lw_aig.specs.declared.gate.Gate.TheVariants.{And}
use Rattle.lw_aig.specs.declared.literal.Literal.{Literal}
use Rattle.lw_aig.specs.Aigs.{AreNodeValues, IsConjunction}
use Rattle.lw_aig.specs.Literals.{literal_value}
use Rattle.lw_sweep.specs.Sweeps.{IsExtended, StandsFor}

pub extended_itself : (gates : List Gate) → IsExtended gates gates
extended_itself gates = record { kept = λ n gate e. e; longer = omega arith }

pub extended_push : (gates : List Gate) (gate : Gate) → IsExtended gates (gates ++ gate ∷ [])
extended_push gates gate =
    let size = length_push gates gate in
    record { kept = λ n g e. get_left gates (gate ∷ []) n g e; longer = omega arith }

pub extended_both : (old middle new : List Gate) → IsExtended old middle → IsExtended middle new → IsExtended old new
extended_both old middle new first second =
    let a = first.longer in
    let b = second.longer in
    record { kept = λ n gate e. second.kept n gate (first.kept n gate e); longer = omega arith }

pub ruleset growth = (extended_itself, extended_both)

-- one gate is appended, and then more
pub grown : (old middle new : List Gate) (gate : Gate) → middle ≡ old ++ gate ∷ [] → IsExtended middle new → IsExtended old new
grown old middle new gate e extended = extended_both old middle new (subst (IsExtended old) (sym e) (extended_push old gate)) extended

-- the values of the nodes of a longer graph are right for the shorter one
pub values_before : (old new : List Gate) (v : ℕ → Bool) → IsExtended old new → AreNodeValues new v → AreNodeValues old v
values_before old new v extended values = record { allowed = λ n gate e. values.allowed n gate (extended.kept n gate e) }

pub stands_later : (old new : List Gate) (n : ℕ) (l : Literal) → IsExtended old new → StandsFor old n l → StandsFor new n l
stands_later old new n l extended stands =
    let a = stands.within in
    let b = extended.longer in
    record { within = omega arith; always = λ v values. stands.always v (values_before old new v extended values) }

-- what stands for a conjunction is one
pub stands_conjunction : (gates : List Gate) (n : ℕ) (a b l : Literal) → slice_get gates n ≡ Some (And a b) → StandsFor gates n l → IsConjunction gates a b l
stands_conjunction gates n a b l at stands = record {
  within = stands.within;
  always = λ v values. stands.always v values ∙ values.allowed n (And a b) at;
}

-- the gate at the end is the last
last_gate : (gates new : List Gate) (n : ℕ) (gate : Gate) → new ≡ gates ++ gate ∷ [] → n ≡ length gates → slice_get new n ≡ Some gate
last_gate gates new n gate e at = ap (λ gs. slice_get gs n) e ∙ (ap (slice_get (gates ++ gate ∷ [])) at ∙ get_last gates gate)

-- it still is its conjunction where the graph has grown on
pub pushed_conjunction : (gates middle new : List Gate) (n : ℕ) (a b l : Literal) → middle ≡ gates ++ And a b ∷ [] → n ≡ length gates → IsExtended middle new → StandsFor new n l → IsConjunction new a b l
pushed_conjunction gates middle new n a b l e at extended stands =
    stands_conjunction new n a b l (extended.kept n (And a b) (last_gate gates middle n (And a b) e at)) stands

and_turned : (a b : Bool) → (a && b) ≡ (b && a)
and_turned true true = refl
and_turned true false = refl
and_turned false true = refl
and_turned false false = refl

pub conjunction_turned : (gates : List Gate) (a b l : Literal) → IsConjunction gates a b l → IsConjunction gates b a l
conjunction_turned gates a b l is = record {
  within = is.within;
  always = λ v values. is.always v values ∙ and_turned (literal_value v a) (literal_value v b);
}
