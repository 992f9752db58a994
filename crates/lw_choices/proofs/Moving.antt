-- Matches that are found go to the end of a list, and come from there.
use Rattle.std.proofs.Common.{◌≡◌, length, map, List, [], ◌∷◌, ◌++◌, Contains, refl, ap, sym, ◌∙◌}
use Rattle.std.proofs.lemmas.List.{append-nil}
use Rattle.lw_cost.specs.declared.mark.Match.{Match as Found}
use Rattle.lw_cost.specs.Values.{plain_match}
use Rattle.lw_laws.specs.Extracts.{Match}
use Rattle.lw_choices.proofs.Lists.{at_contained, contained_at, get_last, get_push}

pub matches_push : (xs : List Found) (m : Found) → map plain_match (xs ++ m ∷ []) ≡ map plain_match xs ++ plain_match m ∷ []
matches_push [] m = refl
matches_push (x ∷ xs) m = ap (λ ms. plain_match x ∷ ms) (matches_push xs m)

put_behind : (xs : List Match) (m : Match) (left : List Match) → xs ++ m ∷ left ≡ (xs ++ m ∷ []) ++ left
put_behind [] m left = refl
put_behind (x ∷ xs) m left = ap (λ ms. x ∷ ms) (put_behind xs m left)

-- the next match goes behind the others
pub matches_moved : (xs ys : List Found) (m : Found) (coming left : List Match) → coming ≡ plain_match m ∷ left → ys ≡ xs ++ m ∷ [] → map plain_match xs ++ coming ≡ map plain_match ys ++ left
matches_moved xs ys m coming left first e =
    ap (λ ms. map plain_match xs ++ ms) first ∙ (put_behind (map plain_match xs) (plain_match m) left ∙ ap (λ ms. ms ++ left) (sym (ap (map plain_match) e ∙ matches_push xs m)))

-- none is left
pub matches_ended : (xs : List Found) (left : List Match) → left ≡ [] → map plain_match xs ++ left ≡ map plain_match xs
matches_ended xs left none = ap (λ ms. map plain_match xs ++ ms) none ∙ append-nil (map plain_match xs)

-- the last match of a list
pub last_match : (xs ys : List Found) (m : Found) → ys ≡ xs ++ m ∷ [] → map plain_match ys ≡ map plain_match xs ++ plain_match m ∷ []
last_match xs ys m e = ap (map plain_match) e ∙ matches_push xs m

pub last_in : (xs : List Match) (m : Match) → Contains (xs ++ m ∷ []) m
last_in xs m = at_contained (xs ++ m ∷ []) (length xs) m (get_last xs m)

pub others_in : (xs : List Match) (m n : Match) → Contains xs n → Contains (xs ++ m ∷ []) n
others_in xs m n in' = let (k, at) = contained_at xs n in' in at_contained (xs ++ m ∷ []) k n (get_push xs m k n at)
