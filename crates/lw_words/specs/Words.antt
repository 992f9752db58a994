-- Words as the readers of lines know them.
use Rattle.std.specs.Prelude.{ℕ, Bool, false, not, ◌&&◌, ◌≡◌, ◌==◌, true, nat_le, nat_eq, List, [], ◌∷◌, length}
use Rattle.std.specs.Prelude.{if◌then◌else◌, All, codes}
use Rattle.std.specs.List.{list_any, ends_with}
use Rattle.std.specs.Str.{bytes_eq}
use Rattle.lw_words.specs.Gathering.{IsWord, IsNoHash}
use Rattle.lw_words.specs.Limits.{longest_name}

-- Lists of words.

abbrev pub first_word : List (List ℕ) → List ℕ
first_word [] = []
first_word (word ∷ words) = word

abbrev pub is_among : List (List ℕ) → List ℕ → Bool
is_among words word = list_any (bytes_eq word) words

-- what stands before the first element that fails
abbrev pub front : {A : Type 0} → (A → Bool) → List A → List A
front p [] = []
front p (x ∷ xs) = if p x then x ∷ front p xs else []

-- Commands.

-- a word that begins with `.`
abbrev pub has_point : List ℕ → Bool
has_point [] = false
has_point (b ∷ word) = b == 46

-- the commands of BLIF that say nothing of a network's function or arrivals
abbrev pub ignored_words : List (List ℕ)
ignored_words =
    codes ".area" ∷ codes ".delay" ∷ codes ".wire_load_slope" ∷ codes ".wire"
    ∷ codes ".output_required" ∷ codes ".default_output_required" ∷ codes ".input_drive"
    ∷ codes ".default_input_drive" ∷ codes ".output_load" ∷ codes ".default_output_load" ∷ codes ".max_input_load"
    ∷ codes ".default_max_input_load" ∷ codes ".cycle" ∷ codes ".clock_event" ∷ []

unfoldable pub is_ignored_word : List ℕ → Bool
is_ignored_word word = is_among ignored_words word

-- Names.

-- at most 2,000 bytes, the last of which is no `\`
abbrev pub is_name : List ℕ → Bool
is_name word = nat_le (length word) longest_name && not (ends_with nat_eq word (92 ∷ []))

-- a name of the format: a word without `#`, of at most 2,000 bytes, that does not end in `\`
pub record IsSignalName (name : List ℕ) : Type 0 where
  pub word : IsWord name
  pub no_hash : All IsNoHash name
  pub ends : is_name name ≡ true
