-- Lines without `#`.
use Rattle.std.proofs.Common.{ℕ, ◌≡◌, Bool, true, false, not, cond, List, [], ◌∷◌, Some, refl, ap, sym, ◌∙◌, subst, arith}
use Rattle.std.specs.Prelude.{All, IsTrue, ◌↔◌, slice_get}
use Rattle.std.specs.Str.{bytes_eq}
use Rattle.std.proofs.lemmas.Bool.{false≢true}
use Rattle.lw_facts.proofs.Lists.{bytes_eq_is}
use Rattle.lw_words.specs.Gathering.{IsNoHash, without_mark}

abbrev mark : List ℕ
mark = 35 ∷ 64 ∷ []

first-word : (ws : List (List ℕ)) (w : List ℕ) → slice_get ws 0 ≡ Some w → (v : List ℕ) (vs : List (List ℕ)) → ws ≡ v ∷ vs → v ≡ w
first-word ws w is v vs whole = let h : Some v ≡ Some w = ap (λ (xs : List (List ℕ)). slice_get xs 0) (sym whole) ∙ is in cc

pub plain-words : (ws : List (List ℕ)) (w : List ℕ) (r : Bool) → slice_get ws 0 ≡ Some w → All (All IsNoHash) (without_mark ws) → r ≡ not (bytes_eq w mark) → IsTrue r ↔ All (All IsNoHash) ws
plain-words [] w r is h e = let wrong : slice_get {X = List ℕ} [] 0 ≡ Some w = is in cc
plain-words (v ∷ vs) w r is h e =
    let same : v ≡ w = first-word (v ∷ vs) w is v vs refl in
    at (bytes_eq v mark) refl (e ∙ ap (λ (x : List ℕ). not (bytes_eq x mark)) (sym same)) h
  where
    at : (b : Bool) → bytes_eq v mark ≡ b → r ≡ not b → All (All IsNoHash) (cond b vs (v ∷ vs)) → IsTrue r ↔ All (All IsNoHash) (v ∷ vs)
    at true is_mark fails g = (λ holds. absurd (false≢true (sym fails ∙ holds)), λ all. absurd (subst (λ (x : List ℕ). All IsNoHash x → ⊥) (sym (bytes_eq_is v mark is_mark)) (λ f. f 0 0 (omega arith) refl) (all 0 [] (omega arith))))
    at false is_mark right g = (λ t. g, λ all. right)
