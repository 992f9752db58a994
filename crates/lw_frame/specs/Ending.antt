-- Lines that are read up to one that ends the reading, which may depend on whether it is the first.
use Rattle.std.specs.Prelude.{Bool, true, false, not, ◌||◌, List, [], ◌∷◌, if◌then◌else◌}
use Rattle.std.specs.List.{list_any}
use Rattle.lw_words.specs.Lines.{LogicalLine}
use Rattle.lw_words.specs.Words.{front}

-- the lines before the one that ends the reading
unfoldable pub lines_until : (Bool → LogicalLine → Bool) → List LogicalLine → List LogicalLine
lines_until ends [] = []
lines_until ends (line ∷ lines) = if ends true line then [] else line ∷ front (λ other. not (ends false other)) lines

-- a line of these ends the reading
unfoldable pub has_end : (Bool → LogicalLine → Bool) → List LogicalLine → Bool
has_end ends [] = false
has_end ends (line ∷ lines) = ends true line || list_any (ends false) lines

-- no line was read
abbrev pub is_first : List LogicalLine → Bool
is_first [] = true
is_first (line ∷ lines) = false
