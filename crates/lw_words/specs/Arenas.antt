-- Words one after another in one list of bytes.
use Rattle.std.specs.Prelude.{ℕ, zero, suc, ◌+◌, ◌<◌, ◌≤◌, List, [], ◌∷◌}
use Rattle.std.specs.List.{slice_range}
use Rattle.lw_words.specs.Limits.{longest_word}

-- the words of bytes from here on, by where each of them ends
abbrev pub words_at : ℕ → List ℕ → List ℕ → List (List ℕ)
words_at from bytes [] = []
words_at from bytes (end ∷ ends) = slice_range bytes from end ∷ words_at end bytes ends

-- where the last word ends
abbrev pub last_end : ℕ → List ℕ → ℕ
last_end from [] = from
last_end from (end ∷ ends) = last_end end ends

-- each word has 1 to 4,095 bytes, and they lie within so many bytes
abbrev pub AreEnds : ℕ → ℕ → List ℕ → Type 0
AreEnds from size [] = from ≤ size
AreEnds from size (end ∷ ends) = (from < end) × (end ≤ from + longest_word) × AreEnds end size ends

-- where the word at a place begins
abbrev pub begin_of : ℕ → List ℕ → ℕ → ℕ
begin_of from [] place = from
begin_of from (end ∷ ends) zero = from
begin_of from (end ∷ ends) (suc place) = begin_of end ends place
