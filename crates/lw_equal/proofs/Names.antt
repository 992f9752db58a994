-- Names that differ, and their places.
use Rattle.std.proofs.Common.{ℕ, ◌+◌, ◌-◌, ◌<◌, ◌≤◌, ◌≡◌, true, false, cond, List, [], ◌∷◌, ◌++◌, Option, Some, None, length, map, take, drop, min, get_or, slice_get, ap, ap₂, sym, subst, ◌∙◌, arith}
use Rattle.std.specs.List.{Any, IsDistinct, list_any, position, position_or_len, slice_range}
use Rattle.std.specs.Option.{option_map}
use Rattle.std.specs.Prelude.{unwrap_or}
use Rattle.std.specs.Str.{bytes_eq}
use Rattle.std.proofs.lemmas.Bool.{false≢true, false_from_ne_true}
use Rattle.std.proofs.lemmas.List.{get_or-drop, get_or-take, length-drop, length-map, length-take, take_more}
use Rattle.std.proofs.lemmas.List.Folds.{Any-from_list_any, list_any_at}
use Rattle.std.proofs.lemmas.List.Quantifiers.{position-Some}
use Rattle.std.proofs.lemmas.Option.{get_or_from_slice_get, same_Some, slice_get-get_or, slice_get-map, slice_get_within}
use Rattle.lw_facts.proofs.Lists.{bytes_eq_is, first_place, position_or_length, none_before}
use Rattle.indexmap.specs.IndexSet.{insert_key}

-- one more name
pub keys_more : (names old new : List (List ℕ)) (i : ℕ) (key : List ℕ) → IsDistinct bytes_eq names → i < length names → key ≡ get_or names i key → old ≡ take i names → new ≡ insert_key bytes_eq old key → new ≡ take (i + 1) names
keys_more names old new i key distinct below here was is =
    let fresh : list_any (bytes_eq key) old ≡ false = ap (list_any (bytes_eq key)) was ∙ (ap (λ n. list_any (bytes_eq n) (take i names)) here ∙ none_before names i key distinct below) in
    is
    ∙ (ap (λ b. cond b old (old ++ key ∷ [])) fresh
    ∙ (ap₂ (λ l n. l ++ n ∷ []) was here ∙ sym (take_more names i key below)))

-- the place of a name
pub own_place : (names : List (List ℕ)) (k : ℕ) (name : List ℕ) → IsDistinct bytes_eq names → slice_get names k ≡ Some name → position_or_len (bytes_eq name) names ≡ k
own_place names k name distinct at =
    subst (λ n. position_or_len (bytes_eq n) names ≡ k) (get_or_from_slice_get names k name name at)
    (first_place names k name distinct (slice_get_within names k name at))

pub place_found : (names : List (List ℕ)) (k : ℕ) (name : List ℕ) → position (bytes_eq name) names ≡ Some k → slice_get names k ≡ Some name
place_found names k name is =
    let at = position-Some (bytes_eq name) names k name is in
    slice_get-get_or names k name at.0 ∙ ap Some (sym (bytes_eq_is name (get_or names k name) at.1))

pub place_only : (names : List (List ℕ)) (k m : ℕ) (name : List ℕ) → IsDistinct bytes_eq names → position (bytes_eq name) names ≡ Some k → slice_get names m ≡ Some name → m ≡ k
place_only names k m name distinct is at =
    sym (own_place names m name distinct at)
    ∙ (sym (position_or_length (bytes_eq name) names) ∙ ap (λ (o : Option ℕ). unwrap_or o (length names)) is)

pub place_nowhere : (names : List (List ℕ)) (m : ℕ) (name : List ℕ) → IsDistinct bytes_eq names → position (bytes_eq name) names ≡ None → slice_get names m ≡ Some name → ⊥
place_nowhere names m name distinct is at =
    let past : m ≡ length names = sym (own_place names m name distinct at) ∙ (sym (position_or_length (bytes_eq name) names) ∙ ap (λ (o : Option ℕ). unwrap_or o (length names)) is) in
    let low = slice_get_within names m name at in
    absurd (omega arith)

-- A name among those from one place to another.

in_part : (names : List (List ℕ)) (from to k : ℕ) (d : List ℕ) → from ≤ k → k < to → get_or (slice_range names from to) (k - from) d ≡ get_or names k d
in_part names from to k d low high =
    let back : from + (k - from) ≡ k = omega arith in
    get_or-take (to - from) (drop from names) (k - from) d (omega arith)
    ∙ (get_or-drop from names (k - from) d ∙ ap (λ n. get_or names n d) back)

part_long : (names : List (List ℕ)) (from to : ℕ) → length (slice_range names from to) ≡ min (to - from) (length names - from)
part_long names from to = length-take (to - from) (drop from names) ∙ ap (min (to - from)) (length-drop from names)

pub is_in : (names : List (List ℕ)) (from to k : ℕ) (name : List ℕ) → position (bytes_eq name) names ≡ Some k → from ≤ k → k < to → list_any (bytes_eq name) (slice_range names from to) ≡ true
is_in names from to k name is low high =
    let at = position-Some (bytes_eq name) names k name is in
    let long = part_long names from to in
    list_any_at (bytes_eq name) (slice_range names from to) (k - from) name (omega (arith, long, at.0))
    (ap (bytes_eq name) (in_part names from to k name low high) ∙ at.1)

-- where a name of the part stands
stands_at : (names : List (List ℕ)) (from to : ℕ) (name : List ℕ) → list_any (bytes_eq name) (slice_range names from to) ≡ true → (k : ℕ) × (from ≤ k) × (k < to) × (slice_get names k ≡ Some name)
stands_at names from to name some = by (Any-from_list_any (bytes_eq name) (slice_range names from to) some)
  where
    by : Any (λ x. bytes_eq name x ≡ true) (slice_range names from to) → (k : ℕ) × (from ≤ k) × (k < to) × (slice_get names k ≡ Some name)
    by (j, x, lt, here, same) =
        let long = part_long names from to in
        let back : from + j - from ≡ j = omega arith in
        let inside : from + j < length names = omega (arith, long, lt) in
        let part : get_or names (from + j) x ≡ x =
        sym (in_part names from to (from + j) x (omega arith) (omega (arith, long, lt))) ∙ (ap (λ n. get_or (slice_range names from to) n x) back ∙ here) in
        (from + j, omega arith, omega (arith, long, lt), slice_get-get_or names (from + j) x inside ∙ ap Some (part ∙ sym (bytes_eq_is name x same)))

pub is_outside : (names : List (List ℕ)) (from to k : ℕ) (name : List ℕ) → IsDistinct bytes_eq names → position (bytes_eq name) names ≡ Some k → (from ≤ k → k < to → ⊥) → list_any (bytes_eq name) (slice_range names from to) ≡ false
is_outside names from to k name distinct is out =
    false_from_ne_true (list_any (bytes_eq name) (slice_range names from to)) (λ some. by (stands_at names from to name some))
  where
    by : ((m : ℕ) × (from ≤ m) × (m < to) × (slice_get names m ≡ Some name)) → ⊥
    by (m, low, high, at) = let same = place_only names k m name distinct is at in out (omega arith) (omega arith)

pub is_nowhere : (names : List (List ℕ)) (from to : ℕ) (name : List ℕ) → IsDistinct bytes_eq names → position (bytes_eq name) names ≡ None → list_any (bytes_eq name) (slice_range names from to) ≡ false
is_nowhere names from to name distinct is =
    false_from_ne_true (list_any (bytes_eq name) (slice_range names from to)) (λ some. by (stands_at names from to name some))
  where
    by : ((m : ℕ) × (from ≤ m) × (m < to) × (slice_get names m ≡ Some name)) → ⊥
    by (m, low, high, at) = place_nowhere names m name distinct is at
