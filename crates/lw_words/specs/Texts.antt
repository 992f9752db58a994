-- Lines of words.
use Rattle.std.specs.Prelude.{ℕ, List, [], ◌∷◌, ◌++◌}

-- a space before each word, and a line end
abbrev pub ended : List (List ℕ) → List ℕ
ended [] = 10 ∷ []
ended (word ∷ words) = 32 ∷ word ++ ended words

-- words with one space between, and a line end
abbrev pub line : List ℕ → List (List ℕ) → List ℕ
line first others = first ++ ended others
