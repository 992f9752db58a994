-- Words at places.
use Rattle.std.proofs.Common.{ℕ, suc, ◌+◌, ◌-◌, ◌<◌, ◌≤◌, ◌≡◌, Bool, true, false, not, ◌&&◌, cond, List, [], ◌∷◌, ◌++◌, length, take, drop, Some, refl, ap, sym, ◌∙◌, arith}
use Rattle.std.specs.Prelude.{slice_get}
use Rattle.std.specs.List.{list_any, slice_range}
use Rattle.std.proofs.lemmas.List.{take_all, length-drop}
use Rattle.std.specs.Str.{bytes_eq}
use Rattle.lw_facts.proofs.Lists.{drop_get}
use Rattle.indexmap.specs.IndexSet.{insert_key, insert_all}
use Rattle.lw_blif.specs.LineFaults.{last_word, has_shape}
use Rattle.lw_blif.specs.Readers.{are_fresh}

pub last_word-get : (words : List (List ℕ)) (word : List ℕ) → slice_get words (length words - 1) ≡ Some word → word ≡ last_word words
last_word-get [] word e = cc
last_word-get (w ∷ []) word e = let same : Some w ≡ Some word = e in cc
last_word-get (w ∷ v ∷ words) word e =
    let before : length (w ∷ v ∷ words) - 1 ≡ suc (length words) = omega arith in
    let place : length (v ∷ words) - 1 ≡ length words = omega arith in
    last_word-get (v ∷ words) word (ap (slice_get (v ∷ words)) place ∙ (sym (ap (slice_get (w ∷ v ∷ words)) before) ∙ e))

-- the third word alone
pub third_word-get : (words : List (List ℕ)) (word : List ℕ) → slice_get words 2 ≡ Some word → word ∷ [] ≡ take 1 (drop 2 words)
third_word-get words word e = sym (ap (take 1) (drop_get words 2 word e))

-- all words from a place on
pub slice_range_end : (from i : ℕ) (words : List (List ℕ)) → length words ≤ i → from ≤ i → slice_range words from i ≡ drop from words
slice_range_end from i words past above = take_all (i - from) (drop from words) (omega (arith, length-drop from words))

-- a row is not empty
pub some-in_row : (fanins : ℕ) (words : List (List ℕ)) → has_shape fanins words ≡ true → 0 < length words
some-in_row fanins [] is = let wrong : false ≡ true = is in cc
some-in_row fanins (word ∷ words) is = omega arith

-- Names that are new.

pub fresh-get : (defined words : List (List ℕ)) (i : ℕ) (word : List ℕ) (b : Bool) → slice_get words i ≡ Some word → b ≡ not (list_any (bytes_eq word) defined) → are_fresh defined (drop i words) ≡ (b && are_fresh (defined ++ word ∷ []) (drop (i + 1) words))
fresh-get defined words i word b e is =
    ap (are_fresh defined) (drop_get words i word e) ∙ ap (λ t. t && are_fresh (defined ++ word ∷ []) (drop (i + 1) words)) (sym is)

-- a new name is the last
pub insert-new : (defined : List (List ℕ)) (word : List ℕ) → true ≡ not (list_any (bytes_eq word) defined) → insert_key bytes_eq defined word ≡ defined ++ word ∷ []
insert-new defined word is = by_case (list_any (bytes_eq word) defined) is
  where
    by_case : (b : Bool) → true ≡ not b → cond b defined (defined ++ word ∷ []) ≡ defined ++ word ∷ []
    by_case true e = cc
    by_case false e = refl

pub insert_all-get : (names words : List (List ℕ)) (i : ℕ) (word : List ℕ) → slice_get words i ≡ Some word → insert_all bytes_eq (insert_key bytes_eq names word) (drop (i + 1) words) ≡ insert_all bytes_eq names (drop i words)
insert_all-get names words i word e = sym (ap (insert_all bytes_eq names) (drop_get words i word e))
