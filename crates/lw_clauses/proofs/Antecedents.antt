-- Antecedents hold, and what is left of one tells what is true.
use Rattle.std.proofs.Common.{ℕ, ◌*◌, ◌≡◌, Bool, true, false, not, ◌&&◌, ◌||◌, Some, Contains, ◌⊎◌, inl, inr, List, [], ◌∷◌, slice_get, refl, ap, ap₂, sym, ◌∙◌, subst}
use Rattle.std.proofs.lemmas.List.Elements.{All-weaker, All-contains}
use Rattle.std.proofs.lemmas.List.Folds.{Any-from_list_any, list_any_none}
use Rattle.std.proofs.lemmas.Bool.{both_ways}
use Rattle.lw_aig.specs.declared.gate.Gate.{Gate}
use Rattle.lw_aig.specs.declared.gate.Gate.TheVariants.{Zero, And}
use Rattle.lw_aig.specs.declared.literal.Literal.{Literal}
use Rattle.lw_aig.specs.Literals.{complement, literal_value}
use Rattle.lw_aig.proofs.Literals.{value_of_complement, value_of_node}
use Rattle.lw_clauses.specs.declared.denied.Left.{Left}
use Rattle.lw_clauses.specs.declared.denied.Left.TheVariants.{Nothing, One, More}
use Rattle.lw_clauses.specs.Checks.{AreFalse, IsLeft, Tells}
use Rattle.lw_clauses.specs.Clauses.{Holds, clause_value}

-- what is left of an antecedent that holds
pub left_tells : (gates : List Gate) (denied antecedent : List Literal) (left : Left) → Holds gates antecedent → IsLeft denied antecedent left → Tells gates denied left
left_tells gates denied antecedent Nothing holds is = λ v values are.
    let off = list_any_none (literal_value v) antecedent (All-weaker (Contains denied) (λ l. literal_value v l ≡ false) (λ l inside. All-contains (λ m. literal_value v m ≡ false) denied l are inside) antecedent is) in
    both_ways (clause_value v antecedent) off (holds.always v values)
left_tells gates denied antecedent (One m) holds is = λ v values are.
    let (k, l, lt, at, on) = Any-from_list_any (literal_value v) antecedent (holds.always v values) in
    by_case v are l on (subst (λ x. (x ≡ m) ⊎ Contains denied x) at (is k l lt))
  where
    by_case : (v : ℕ → Bool) → AreFalse v denied → (l : Literal) → literal_value v l ≡ true → (l ≡ m) ⊎ Contains denied l → literal_value v m ≡ true
    by_case v are l on (inl e) = sym (ap (literal_value v) e) ∙ on
    by_case v are l on (inr inside) = absurd (both_ways (literal_value v l) (All-contains (λ x. literal_value v x ≡ false) denied l are inside) on)
left_tells gates denied antecedent More holds is = tt

module _ (gates : List Gate) (n : ℕ) (node off : Literal) (even : node.0 ≡ 2 * n) (turned : off ≡ complement node) where
  off_value : (v : ℕ → Bool) → literal_value v off ≡ not (v n)
  off_value v = ap (literal_value v) turned ∙ (value_of_complement v node ∙ ap not (value_of_node v n node even))

  pub zero_holds : slice_get gates n ≡ Some Zero → Holds gates (off ∷ [])
  zero_holds at = record { always = λ v values. ap (λ b. b || false) (off_value v ∙ ap not (values.allowed n Zero at)) }

  first_true : (a b : Bool) → (not (a && b) || (a || false)) ≡ true
  first_true true true = refl
  first_true true false = refl
  first_true false b = refl

  second_true : (a b : Bool) → (not (a && b) || (b || false)) ≡ true
  second_true true true = refl
  second_true true false = refl
  second_true false b = refl

  pub first_holds : (a b : Literal) → slice_get gates n ≡ Some (And a b) → Holds gates (off ∷ a ∷ [])
  first_holds a b at = record {
    always = λ v values.
        ap (λ x. x || (literal_value v a || false)) (off_value v ∙ ap not (values.allowed n (And a b) at)) ∙ first_true (literal_value v a) (literal_value v b);
  }

  pub second_holds : (a b : Literal) → slice_get gates n ≡ Some (And a b) → Holds gates (off ∷ b ∷ [])
  second_holds a b at = record {
    always = λ v values.
        ap (λ x. x || (literal_value v b || false)) (off_value v ∙ ap not (values.allowed n (And a b) at)) ∙ second_true (literal_value v a) (literal_value v b);
  }

both_true : (a b : Bool) → ((a && b) || (not a || (not b || false))) ≡ true
both_true true true = refl
both_true true false = refl
both_true false b = refl

pub both_holds : (gates : List Gate) (n : ℕ) (node a b a' b' : Literal) → node.0 ≡ 2 * n → slice_get gates n ≡ Some (And a b) → a' ≡ complement a → b' ≡ complement b → Holds gates (node ∷ a' ∷ b' ∷ [])
both_holds gates n node a b a' b' even at turned also = record {
  always = λ v values.
      ap (λ x. x || (literal_value v a' || (literal_value v b' || false))) (value_of_node v n node even ∙ values.allowed n (And a b) at)
      ∙ (ap₂ (λ x y. (literal_value v a && literal_value v b) || (x || (y || false))) (ap (literal_value v) turned ∙ value_of_complement v a) (ap (literal_value v) also ∙ value_of_complement v b)
      ∙ both_true (literal_value v a) (literal_value v b));
}
