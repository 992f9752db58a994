-- What a clause over complements refutes, and two refutations.
use Rattle.std.proofs.Common.{ℕ, ◌≡◌, Bool, true, false, not, All, Contains, List, [], ◌∷◌, refl, ap, sym, ◌∙◌}
use Rattle.std.proofs.lemmas.List.Elements.{All-cons, All-contains, All-nil, All-weaker}
use Rattle.std.proofs.lemmas.List.Folds.{list_any_none}
use Rattle.lw_aig.specs.declared.gate.Gate.{Gate}
use Rattle.lw_aig.specs.declared.literal.Literal.{Literal}
use Rattle.lw_aig.specs.Literals.{complement, literal_value}
use Rattle.lw_aig.proofs.Literals.{value_of_complement}
use Rattle.lw_clauses.specs.Clauses.{Holds, clause_value}
use Rattle.lw_search.specs.declared.found.Found.{Found}
use Rattle.lw_search.specs.declared.found.Found.TheVariants.{Equal, Apart, Open}
use Rattle.lw_search.specs.Queries.{AreNeverTrue, ArePartOfComplements, Refutes, Tells}

not_both : (b : Bool) → b ≡ true → b ≡ false → ⊥
not_both b t f = cc

turned_off : (b : Bool) → not b ≡ true → b ≡ false
turned_off true e = cc
turned_off false e = refl

-- a clause that holds, over complements of the roots
pub refuted_by : (gates : List Gate) (roots clause : List Literal) → ArePartOfComplements roots clause → Holds gates clause → AreNeverTrue gates roots
refuted_by gates roots clause part holds = record {
  never = λ v values on.
      let off = list_any_none (literal_value v) clause
      (All-weaker (λ l. Contains roots (complement l)) (λ l. literal_value v l ≡ false)
      (λ l inside. turned_off (literal_value v l) (sym (value_of_complement v l) ∙ All-contains (λ m. literal_value v m ≡ true) roots (complement l) on inside)) clause part) in
      not_both (clause_value v clause) (holds.always v values) off;
}

-- equal, where neither is true with the other one false
same_both_ways : (a b : Bool) → (a ≡ true → not b ≡ true → ⊥) → (not a ≡ true → b ≡ true → ⊥) → a ≡ b
same_both_ways true true f g = refl
same_both_ways true false f g = absurd (f refl refl)
same_both_ways false true f g = absurd (g refl refl)
same_both_ways false false f g = refl

pub both_tell : (gates : List Gate) (left right left' right' : Literal) (there back : Found) → left' ≡ complement left → right' ≡ complement right → there ≡ Equal → Refutes gates (left ∷ right' ∷ []) there → Refutes gates (left' ∷ right ∷ []) back → Tells gates left right back
both_tell gates left right left' right' Equal Equal e f is never also = record {
  always = λ v values.
      same_both_ways (literal_value v left) (literal_value v right)
      (λ a b. never.never v values (both v left right' a (ap (literal_value v) f ∙ (value_of_complement v right ∙ b))))
      (λ a b. also.never v values (both v left' right (ap (literal_value v) e ∙ (value_of_complement v left ∙ a)) b));
}
  where
    both : (v : ℕ → Bool) (l m : Literal) → literal_value v l ≡ true → literal_value v m ≡ true → All (λ x. literal_value v x ≡ true) (l ∷ m ∷ [])
    both v l m a b = All-cons (λ x. literal_value v x ≡ true) l (m ∷ []) a (All-cons (λ x. literal_value v x ≡ true) m [] b (All-nil (λ x. literal_value v x ≡ true)))
both_tell gates left right left' right' Equal Apart e f is never also = tt
both_tell gates left right left' right' Equal Open e f is never also = tt
both_tell gates left right left' right' Apart back e f is never also = cc
both_tell gates left right left' right' Open back e f is never also = cc
