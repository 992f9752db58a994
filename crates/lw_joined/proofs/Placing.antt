-- Names that are looked up among others.
use Rattle.std.proofs.Common.{ℕ, zero, suc, ◌+◌, ◌<◌, ◌≡◌, true, false, cond, List, [], ◌∷◌, ◌++◌, length, take, get_or, Some, slice_get, ap, ap₂, sym, ◌∙◌, subst₂}
use Rattle.std.specs.List.{AllZip, Contains, IsDistinct, list_any, position}
use Rattle.std.specs.Str.{bytes_eq}
use Rattle.std.proofs.lemmas.Bool.{false≢true}
use Rattle.std.proofs.lemmas.List.{take_more}
use Rattle.std.proofs.lemmas.List.Quantifiers.{position-Some}
use Rattle.std.proofs.lemmas.Map.Views.{list_any-from_Contains}
use Rattle.std.proofs.lemmas.Option.{slice_get-get_or}
use Rattle.std.specs.Cmp.Lexicographic.{nat_list_eq_equiv}
use Rattle.indexmap.specs.IndexSet.{insert_key}
use Rattle.lw_facts.proofs.Lists.{at_contained, bytes_eq_is, contained_at, none_before}
use Rattle.lw_joined.specs.Places.{ArePlacesOf, IsFirstStrange}

-- one more name is in the set
pub keys_more : (names old new : List (List ℕ)) (i : ℕ) (key : List ℕ) → IsDistinct bytes_eq names → i < length names → key ≡ get_or names i key → old ≡ take i names → new ≡ insert_key bytes_eq old key → new ≡ take (i + 1) names
keys_more names old new i key distinct below here was is =
    let fresh : list_any (bytes_eq key) old ≡ false = ap (list_any (bytes_eq key)) was ∙ (ap (λ n. list_any (bytes_eq n) (take i names)) here ∙ none_before names i key distinct below) in
    is
    ∙ (ap (λ b. cond b old (old ++ key ∷ [])) fresh
    ∙ (ap₂ (λ l n. l ++ n ∷ []) was here ∙ sym (take_more names i key below)))

zip_push : {A B : Type 0} (R : A → B → Type 0) (xs : List A) (ys : List B) (x : A) (y : B) → AllZip R xs ys → R x y → AllZip R (xs ++ x ∷ []) (ys ++ y ∷ [])
zip_push R [] [] x y all r = (r, tt)
zip_push R [] (v ∷ ys) x y all r = absurd all
zip_push R (u ∷ xs) [] x y all r = absurd all
zip_push R (u ∷ xs) (v ∷ ys) x y (p, all) r = (p, zip_push R xs ys x y all r)

-- one more name has its place
pub places_more : (names inputs : List (List ℕ)) (old new : List ℕ) (i place : ℕ) (name : List ℕ) → i < length inputs → name ≡ get_or inputs i name → Some place ≡ position (bytes_eq name) names → new ≡ old ++ place ∷ [] → ArePlacesOf names (take i inputs) old → ArePlacesOf names (take (i + 1) inputs) new
places_more names inputs old new i place name below here found is are =
    let first = position-Some (bytes_eq name) names place name (sym found) in
    let at : slice_get names place ≡ Some name = slice_get-get_or names place name first.0 ∙ ap Some (sym (bytes_eq_is name (get_or names place name) first.1)) in
    subst₂ (λ (ns : List (List ℕ)) (ps : List ℕ). ArePlacesOf names ns ps) (ap (λ n. take i inputs ++ n ∷ []) here ∙ sym (take_more inputs i name below)) (sym is)
    (zip_push (λ p n. slice_get names p ≡ Some n) old (take i inputs) place name are at)

-- names with places are among the others
placed_among : (names inputs : List (List ℕ)) (places : List ℕ) (k : ℕ) (name : List ℕ) → ArePlacesOf names inputs places → slice_get inputs k ≡ Some name → Contains names name
placed_among names [] places k name are at = cc
placed_among names (x ∷ inputs) [] k name are at = absurd are
placed_among names (x ∷ inputs) (p ∷ places) zero name (here, rest) at = at_contained names p name (here ∙ at)
placed_among names (x ∷ inputs) (p ∷ places) (suc k) name (here, rest) at = placed_among names inputs places k name rest at

nowhere : (names : List (List ℕ)) (name : List ℕ) → list_any (bytes_eq name) names ≡ false → Contains names name → ⊥
nowhere names name none has = false≢true (sym none ∙ list_any-from_Contains nat_list_eq_equiv name names has)

pub is_strange : (names inputs : List (List ℕ)) (places : List ℕ) (i : ℕ) (name : List ℕ) → i < length inputs → name ≡ get_or inputs i name → list_any (bytes_eq name) names ≡ false → ArePlacesOf names (take i inputs) places → IsFirstStrange names inputs name
is_strange names inputs places i name below here none are = record {
  place = i;
  at = slice_get-get_or inputs i name below ∙ ap Some (sym here);
  strange = nowhere names name none;
  before = λ other has. let (k, at) = contained_at (take i inputs) other has in placed_among names (take i inputs) places k other are at;
}
