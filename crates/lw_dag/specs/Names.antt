-- Names, and their places in a list.
use Rattle.std.specs.Prelude.{ℕ, Bool, not, Option, List, find, position, unwrap_or}
use Rattle.std.specs.List.{list_any}
use Rattle.std.specs.Str.{bytes_eq}

-- The name is one of these.
abbrev pub is_among : List (List ℕ) → List ℕ → Bool
is_among names name = list_any (bytes_eq name) names

-- the first of some names that is none of those that are known
abbrev pub unknown_in : List (List ℕ) → List (List ℕ) → Option (List ℕ)
unknown_in known names = find (λ name. not (is_among known name)) names

-- the place of a name
abbrev pub number_in : List (List ℕ) → List ℕ → ℕ
number_in names name = unwrap_or (position (bytes_eq name) names) 0
