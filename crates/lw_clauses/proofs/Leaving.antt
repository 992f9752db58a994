-- What is left of an antecedent, literal by literal, and what is denied on the way.
use Rattle.std.proofs.Common.{ℕ, ◌+◌, ◌<◌, ◌≡◌, Bool, true, false, not, Contains, ◌⊎◌, inl, inr, ◌||◌, List, [], ◌∷◌, ◌++◌, length, take, get_or, refl, ap, ◌∙◌}
use Rattle.std.specs.List.{AllByRecursion, list_any}
use Rattle.std.proofs.lemmas.List.Elements.{All-weaker, All-more, All-push, All-from_recursion}
use Rattle.lw_aig.specs.declared.gate.Gate.{Gate}
use Rattle.lw_aig.specs.declared.literal.Literal.{Literal}
use Rattle.lw_aig.specs.Aigs.{AreNodeValues}
use Rattle.lw_aig.specs.Literals.{complement, literal_value}
use Rattle.lw_aig.proofs.Literals.{value_of_complement}
use Rattle.lw_clauses.specs.declared.denied.Left.{Left}
use Rattle.lw_clauses.specs.declared.denied.Left.TheVariants.{Nothing, One, More}
use Rattle.lw_clauses.specs.Checks.{Denies, IsLeft, Tells}
use Rattle.lw_clauses.specs.Clauses.{Holds, clause_value}

module _ (denied antecedent : List Literal) (i : ℕ) (d : Literal) (within : i < length antecedent) where
  -- a denied literal changes nothing
  pub left_without : (left : Left) → IsLeft denied (take i antecedent) left → Contains denied (get_or antecedent i d) → IsLeft denied (take (i + 1) antecedent) left
  left_without Nothing all has = All-more (Contains denied) antecedent i d within all has
  left_without (One m) all has = All-more (λ x. (x ≡ m) ⊎ Contains denied x) antecedent i d within all (inr has)
  left_without More all has = tt

  -- the first literal that is left
  pub left_with : (left : Left) → left ≡ Nothing → IsLeft denied (take i antecedent) left → IsLeft denied (take (i + 1) antecedent) (One (get_or antecedent i d))
  left_with Nothing e all = All-more (λ x. (x ≡ get_or antecedent i d) ⊎ Contains denied x) antecedent i d within (All-weaker (Contains denied) (λ x. (x ≡ get_or antecedent i d) ⊎ Contains denied x) (λ x has. inr has) (take i antecedent) all) (inl refl)
  left_with (One m) e all = cc
  left_with More e all = cc

off_parts : (a b : Bool) → (a || b) ≡ false → (a ≡ false) × (b ≡ false)
off_parts true b e = cc
off_parts false b e = (refl, e)

-- the literals of a false clause are false
pub denies_itself : (gates : List Gate) (clause : List Literal) → Denies gates clause clause
denies_itself gates clause = record { always = λ v values off. All-from_recursion (λ l. literal_value v l ≡ false) clause (each v clause off) }
  where
    each : (v : ℕ → Bool) (ls : List Literal) → list_any (literal_value v) ls ≡ false → AllByRecursion (λ l. literal_value v l ≡ false) ls
    each v [] off = tt
    each v (l ∷ ls) off = let parts = off_parts (literal_value v l) (list_any (literal_value v) ls) off in (parts.0, each v ls parts.1)

-- one literal left of an antecedent
pub denies_more : (gates : List Gate) (clause denied : List Literal) (m : Literal) → Denies gates clause denied → Tells gates denied (One m) → Denies gates clause (denied ++ complement m ∷ [])
denies_more gates clause denied m denies tells = record {
  always = λ v values off.
      let are = denies.always v values off in
      All-push (λ l. literal_value v l ≡ false) denied (complement m) are (value_of_complement v m ∙ ap not (tells v values are));
}

-- none left of an antecedent
pub holds_at_last : (gates : List Gate) (clause denied : List Literal) → Denies gates clause denied → Tells gates denied Nothing → Holds gates clause
holds_at_last gates clause denied denies tells = record { always = λ v values. by_value v values (clause_value v clause) refl }
  where
    by_value : (v : ℕ → Bool) → AreNodeValues gates v → (b : Bool) → clause_value v clause ≡ b → clause_value v clause ≡ true
    by_value v values true e = e
    by_value v values false e = absurd (tells v values (denies.always v values e))
