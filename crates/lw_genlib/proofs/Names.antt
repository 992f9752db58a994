-- The names of cells, which differ, and their places.
use Rattle.std.proofs.Common.{◌≡◌, ℕ, zero, suc, ◌+◌, ◌<◌, ◌≤◌, Bool, true, false, not, ◌||◌, cond, List, [], ◌∷◌, ◌++◌, length, map, take, get_or, Some, None, refl, sym, ap, ap₂, ◌∙◌, arith, slice_get, unwrap_or, nat_lt}
use Rattle.std.specs.Prelude.{sum_by, Contains}
use Rattle.std.specs.List.{list_any, IsDistinct, position, position_or_len}
use Rattle.std.specs.Str.{bytes_eq}
use Rattle.std.proofs.lemmas.List.{take_more, get_or-map, map_push, length-map}
use Rattle.std.proofs.lemmas.List.Quantifiers.{position-Some}
use Rattle.std.proofs.lemmas.List.Folds.{list_any_at}
use Rattle.std.proofs.lemmas.List.Sums.{sum_by-cons, prefix_len_is}
use Rattle.std.proofs.lemmas.Option.{slice_get-get_or}
use Rattle.std.proofs.lemmas.Bool.{false≢true, lt-ltb, le-ltb}
use Rattle.lw_facts.proofs.Lists.{bytes_eq_is, bytes_eq_same, none_before}
use Rattle.indexmap.specs.IndexSet.{insert_key}
use Rattle.lw_genlib.specs.Cells.{CellParts, IsLibrary, Key, bytes_of, names_of, form_count}

-- a test of the bytes of keys
any_bytes : (q : List ℕ) (keys : List Key) → list_any (λ (key : Key). bytes_eq q key.items) keys ≡ list_any (bytes_eq q) (map bytes_of keys)
any_bytes q [] = refl
any_bytes q (key ∷ keys) = ap (λ b. bytes_eq q key.items || b) (any_bytes q keys)

-- one more name of a cell is a key
pub inserted : (names : List (List ℕ)) (old new : List Key) (i : ℕ) (key : Key) → IsDistinct bytes_eq names → i < length names → key.items ≡ get_or names i key.items → map bytes_of old ≡ take i names
    → new ≡ insert_key (λ (a b : Key). bytes_eq a.items b.items) old key → map bytes_of new ≡ take (i + 1) names
inserted names old new i key distinct below here was is =
    let fresh : list_any (λ (k : Key). bytes_eq key.items k.items) old ≡ false =
    any_bytes key.items old ∙ (ap (list_any (bytes_eq key.items)) was ∙ (ap (λ n. list_any (bytes_eq n) (take i names)) here ∙ none_before names i key.items distinct below)) in
    ap (map bytes_of) (is ∙ ap (λ b. cond b old (old ++ key ∷ [])) fresh)
    ∙ (map_push bytes_of old key ∙ (ap₂ (λ l n. l ++ n ∷ []) was here ∙ sym (take_more names i key.items below)))

-- the place of a key is that of the name
pub found_at : (q : List ℕ) (keys : List Key) (names : List (List ℕ)) (i : ℕ) → map bytes_of keys ≡ names → position (λ (key : Key). bytes_eq q key.items) keys ≡ Some i → (i < length keys) × (slice_get names i ≡ Some q)
found_at q [] names i all is = cc
found_at q (key ∷ keys) names i all is =
    let at = position-Some (λ (k : Key). bytes_eq q k.items) (key ∷ keys) i key is in
    let there : get_or (map bytes_of (key ∷ keys)) i q ≡ (get_or (key ∷ keys) i key).items = get_or-map bytes_of (key ∷ keys) i key q at.0 in
    let name : get_or names i q ≡ q = ap (λ ns. get_or ns i q) (sym all) ∙ (there ∙ sym (bytes_eq_is q _ at.1)) in
    let size : length names ≡ length (key ∷ keys) = ap length (sym all) ∙ length-map (key ∷ keys) bytes_of in
    let within : i < length names = omega arith in
    (at.0, slice_get-get_or names i q within ∙ ap Some name)

pub found_nowhere : (q : List ℕ) (keys : List Key) (names : List (List ℕ)) → map bytes_of keys ≡ names → list_any (λ (key : Key). bytes_eq q key.items) keys ≡ false → Contains names q → ⊥
found_nowhere q keys names all none (k, lt, here) =
    let some : list_any (bytes_eq q) names ≡ true = list_any_at (bytes_eq q) names k q lt (bytes_eq_same q (get_or names k q) (sym here)) in
    false≢true (sym none ∙ (any_bytes q keys ∙ (ap (list_any (bytes_eq q)) all ∙ some)))

-- there are no more cells than forms
pub no_more_cells : (cells : List CellParts) → ((k : ℕ) (d : CellParts) → k < length cells → 0 < form_count (get_or cells k d)) → length cells ≤ sum_by form_count cells
no_more_cells [] some = omega arith
no_more_cells (cell ∷ cells) some =
    let here : 0 < form_count cell = some zero cell (omega arith) in
    let others : length cells ≤ sum_by form_count cells = no_more_cells cells (λ k d lt. some (suc k) d (omega arith)) in
    let all : sum_by form_count (cell ∷ cells) ≡ form_count cell + sum_by form_count cells = sum_by-cons form_count cell cells in
    omega arith

pub few_cells : (cells : List CellParts) → IsLibrary cells → length cells ≤ 4096
few_cells cells lib =
    let most : length cells ≤ sum_by form_count cells = no_more_cells cells (λ k d lt. (lib.each k d lt).kept.some_form) in
    let few : sum_by form_count cells ≤ 4096 = lib.few in
    omega arith

-- the name of a cell at its place
pub named_at : (cells : List CellParts) (i : ℕ) (cell : CellParts) (bytes : List ℕ) → i < length cells → cell ≡ get_or cells i cell → bytes ≡ cell.name → (i < length (names_of cells)) × (bytes ≡ get_or (names_of cells) i bytes)
named_at cells i cell bytes lt here is =
    let name : CellParts → List ℕ = λ (c : CellParts). c.name in
    let size : length (names_of cells) ≡ length cells = length-map cells name in
    (omega arith, is ∙ (ap name here ∙ sym (get_or-map name cells i cell bytes lt)))

pub key_count : (keys : List Key) (cells : List CellParts) → map bytes_of keys ≡ names_of cells → length keys ≡ length cells
key_count keys cells is = sym (length-map keys bytes_of) ∙ (ap length is ∙ length-map cells (λ (c : CellParts). c.name))

-- the place of the first element that passes, and 0 where none does
pub first_place : (p : List ℕ → Bool) (xs : List (List ℕ)) (i : ℕ) → i < length xs → ((k : ℕ) → k < i → p (get_or xs k []) ≡ false) → p (get_or xs i []) ≡ true → unwrap_or (position p xs) 0 ≡ i
first_place p xs i lt none here =
    let at : position_or_len p xs ≡ i = prefix_len_is (λ x. not (p x)) xs i [] (omega arith) (λ k l. ap not (none k l)) (λ _. ap not here) in
    let found : nat_lt (position_or_len p xs) (length xs) ≡ true = ap (λ n. nat_lt n (length xs)) at ∙ lt-ltb i (length xs) lt in
    ap (λ b. unwrap_or (cond b (Some (position_or_len p xs)) None) 0) found ∙ at

pub no_place : (p : List ℕ → Bool) (xs : List (List ℕ)) → ((k : ℕ) → k < length xs → p (get_or xs k []) ≡ false) → unwrap_or (position p xs) 0 ≡ 0
no_place p xs none =
    let at : position_or_len p xs ≡ length xs = prefix_len_is (λ x. not (p x)) xs (length xs) [] (omega arith) (λ k l. ap not (none k l)) (λ lt. absurd (omega arith)) in
    let lost : nat_lt (position_or_len p xs) (length xs) ≡ false = ap (λ n. nat_lt n (length xs)) at ∙ le-ltb (length xs) (length xs) (omega arith) in
    ap (λ b. unwrap_or (cond b (Some (position_or_len p xs)) None) 0) lost
