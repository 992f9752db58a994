-- Names that differ from one another.
use Rattle.std.proofs.Common.{ℕ, ◌≡◌, Bool, true, false, not, ◌||◌, List, [], ◌∷◌, ◌++◌, refl, ap, sym, ◌∙◌, subst, append-nil, append_assoc}
use Rattle.std.specs.List.{flat_map, IsDistinct, AllByRecursion}
use Rattle.std.specs.List.Sorted.{IsPermutation}
use Rattle.std.specs.Str.{bytes_eq}
use Rattle.std.proofs.lemmas.Bool.{and_parts, not-true}
use Rattle.std.proofs.lemmas.List.Sorted.{IsPermutation-refl, IsPermutation-trans, IsPermutation-append_comm, IsPermutation-append_left, IsPermutation-append_right}
use Rattle.lw_facts.proofs.Lists.{distinct_push}
use Rattle.lw_blif.specs.Readers.{are_fresh}
use Rattle.lw_words.specs.Words.{is_among}

-- a name that is none of these differs from each
none-among : (names : List (List ℕ)) (name : List ℕ) → is_among names name ≡ false → AllByRecursion (λ other. bytes_eq name other ≡ false) names
none-among [] name e = tt
none-among (other ∷ names) name e = by_first (bytes_eq name other) refl e (none-among names name)
  where
    by_first : (b : Bool) → bytes_eq name other ≡ b → (bytes_eq name other || is_among names name) ≡ false → (is_among names name ≡ false → AllByRecursion (λ o. bytes_eq name o ≡ false) names) → (bytes_eq name other ≡ false) × AllByRecursion (λ o. bytes_eq name o ≡ false) names
    by_first true is h others = let wrong : true ≡ false = sym (ap (λ b. b || is_among names name) is) ∙ h in cc
    by_first false is h others = (is, others (sym (ap (λ b. b || is_among names name) is) ∙ h))

-- names that are new
pub distinct-fresh : (names more : List (List ℕ)) → IsDistinct bytes_eq names → are_fresh names more ≡ true → IsDistinct bytes_eq (names ++ more)
distinct-fresh names [] distinct fresh = subst (IsDistinct bytes_eq) (sym (append-nil names)) distinct
distinct-fresh names (name ∷ more) distinct fresh =
    let parts = and_parts (not (is_among names name)) (are_fresh (names ++ name ∷ []) more) fresh in
    subst (IsDistinct bytes_eq) (append_assoc names (name ∷ []) more)
    (distinct-fresh (names ++ name ∷ []) more (distinct_push names name distinct (not-true (is_among names name) parts.0)) parts.1)

-- Two lists of names an element, one after the other.
pub in-two : {A : Type 0} (f g : A → List (List ℕ)) (xs : List A) → IsPermutation (flat_map (λ x. f x ++ g x) xs) (flat_map f xs ++ flat_map g xs)
in-two f g [] = IsPermutation-refl []
in-two f g (x ∷ xs) =
    let a = f x in
    let b = g x in
    let rest = flat_map (λ y. f y ++ g y) xs in
    let fs = flat_map f xs in
    let gs = flat_map g xs in
    let inner : IsPermutation ((a ++ b) ++ rest) ((a ++ b) ++ (fs ++ gs)) = IsPermutation-append_right (a ++ b) rest (fs ++ gs) (in-two f g xs) in
    let turned : IsPermutation (a ++ ((b ++ fs) ++ gs)) (a ++ ((fs ++ b) ++ gs)) =
    IsPermutation-append_right a ((b ++ fs) ++ gs) ((fs ++ b) ++ gs) (IsPermutation-append_left gs (b ++ fs) (fs ++ b) (IsPermutation-append_comm b fs)) in
    let from : (a ++ b) ++ (fs ++ gs) ≡ a ++ ((b ++ fs) ++ gs) = append_assoc a b (fs ++ gs) ∙ ap (λ r. a ++ r) (sym (append_assoc b fs gs)) in
    let to : a ++ ((fs ++ b) ++ gs) ≡ (a ++ fs) ++ (b ++ gs) = ap (λ r. a ++ r) (append_assoc fs b gs) ∙ sym (append_assoc a fs (b ++ gs)) in
    IsPermutation-trans ((a ++ b) ++ rest) ((a ++ b) ++ (fs ++ gs)) ((a ++ fs) ++ (b ++ gs)) inner
    (subst (λ (r : List (List ℕ)). IsPermutation ((a ++ b) ++ (fs ++ gs)) r) to (subst (λ (r : List (List ℕ)). IsPermutation r (a ++ ((fs ++ b) ++ gs))) (sym from) turned))
