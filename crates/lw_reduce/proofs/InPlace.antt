-- A list whose elements are replaced one by one.
use Rattle.std.proofs.Common.{ℕ, zero, suc, ◌+◌, ◌<◌, ◌≤◌, ◌≡◌, List, [], ◌∷◌, ◌++◌, length, map, take, drop, get_or, slice_set, refl, ap, ◌∙◌, arith}
use Rattle.std.proofs.lemmas.List.{take_all, drop_all, append-nil}

in_place : {X : Type 0} (f : X → X) (old : List X) (i : ℕ) (d : X) → i < length old → slice_set (map f (take i old) ++ drop i old) i (f (get_or (map f (take i old) ++ drop i old) i d)) ≡ map f (take (suc i) old) ++ drop (suc i) old
in_place f [] i d lt = absurd (omega arith)
in_place f (x ∷ xs) zero d lt = refl
in_place f (x ∷ xs) (suc i) d lt = ap (λ ys. f x ∷ ys) (in_place f xs i d (omega arith))

pub in_place_more : {X : Type 0} (f : X → X) (old now : List X) (i : ℕ) (d : X) → i < length old → now ≡ map f (take i old) ++ drop i old → slice_set now i (f (get_or now i d)) ≡ map f (take (i + 1) old) ++ drop (i + 1) old
in_place_more f old now i d lt e =
    let s : suc i ≡ i + 1 = omega arith in
    ap (λ ns. slice_set ns i (f (get_or ns i d))) e ∙ (in_place f old i d lt ∙ ap (λ k. map f (take k old) ++ drop k old) s)

pub in_place_at : {X : Type 0} (f : X → X) (old : List X) (i : ℕ) (d : X) → i < length old → get_or (map f (take i old) ++ drop i old) i d ≡ get_or old i d
in_place_at f [] i d lt = absurd (omega arith)
in_place_at f (x ∷ xs) zero d lt = refl
in_place_at f (x ∷ xs) (suc i) d lt = in_place_at f xs i d (omega arith)

pub in_place_all : {X : Type 0} (f : X → X) (old : List X) (i : ℕ) → length old ≤ i → map f (take i old) ++ drop i old ≡ map f old
in_place_all f old i le =
    ap (λ ys. map f (take i old) ++ ys) (drop_all i old le) ∙ (append-nil (map f (take i old)) ∙ ap (map f) (take_all i old le))

pub in_place_none : {X : Type 0} (f : X → X) (old : List X) → old ≡ map f (take 0 old) ++ drop 0 old
in_place_none f [] = refl
in_place_none f (x ∷ xs) = refl
