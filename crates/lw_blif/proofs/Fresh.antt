-- Names that are new.
use Rattle.std.proofs.Common.{ℕ, ◌≡◌, Bool, true, false, not, ◌&&◌, ◌||◌, List, [], ◌∷◌, ◌++◌, refl, ap, ◌∙◌}
use Rattle.std.specs.List.{list_any}
use Rattle.std.specs.Str.{bytes_eq}
use Rattle.std.proofs.Math.Bool.{or-false}
use Rattle.std.proofs.lemmas.List.Folds.{list_any-append}
use Rattle.lw_facts.proofs.Lists.{bytes_eq_turned}
use Rattle.lw_blif.specs.LineFaults.{has_twice}
use Rattle.lw_blif.specs.Readers.{are_fresh}
use Rattle.lw_words.specs.Words.{is_among}

among-push : (defined : List (List ℕ)) (name other : List ℕ) → is_among (defined ++ name ∷ []) other ≡ (is_among defined other || bytes_eq other name)
among-push defined name other = list_any-append (bytes_eq other) defined (name ∷ []) ∙ ap (λ t. is_among defined other || t) (or-false (bytes_eq other name))

-- some name is among those before, or is this one
any-among-push : (defined : List (List ℕ)) (name : List ℕ) (names : List (List ℕ)) → list_any (is_among (defined ++ name ∷ [])) names ≡ (list_any (is_among defined) names || is_among names name)
any-among-push defined name [] = refl
any-among-push defined name (other ∷ names) =
    ap (λ t. t || list_any (is_among (defined ++ name ∷ [])) names) (among-push defined name other)
    ∙ (ap (λ t. (is_among defined other || bytes_eq other name) || t) (any-among-push defined name names)
    ∙ (ap (λ t. (is_among defined other || t) || (list_any (is_among defined) names || is_among names name)) (bytes_eq_turned other name)
    ∙ by_parts (is_among defined other) (bytes_eq name other) (list_any (is_among defined) names) (is_among names name)))
  where
    by_parts : (a b c d : Bool) → ((a || b) || (c || d)) ≡ ((a || c) || (b || d))
    by_parts true b c d = refl
    by_parts false true true d = refl
    by_parts false true false d = refl
    by_parts false false c d = refl

-- new names are those of which none stands twice, nor among the others
pub fresh-are : (defined names : List (List ℕ)) → are_fresh defined names ≡ not (has_twice names || list_any (is_among defined) names)
fresh-are defined [] = refl
fresh-are defined (name ∷ names) =
    ap (λ t. not (is_among defined name) && t) (fresh-are (defined ++ name ∷ []) names)
    ∙ (ap (λ t. not (is_among defined name) && not (has_twice names || t)) (any-among-push defined name names)
    ∙ by_parts (is_among defined name) (has_twice names) (list_any (is_among defined) names) (is_among names name))
  where
    by_parts : (a t c d : Bool) → (not a && not (t || (c || d))) ≡ not ((d || t) || (a || c))
    by_parts true true c true = refl
    by_parts true true c false = refl
    by_parts true false c true = refl
    by_parts true false c false = refl
    by_parts false true c true = refl
    by_parts false true c false = refl
    by_parts false false true true = refl
    by_parts false false true false = refl
    by_parts false false false true = refl
    by_parts false false false false = refl
