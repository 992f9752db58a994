-- Which lines are vectors: values of the inputs.
use Rattle.std.specs.Prelude.{ℕ, Bool, not, ◌&&◌, ◌||◌, ◌==◌, nat_eq, List, [], ◌∷◌, length, map, Option, Some, None}
use Rattle.std.specs.Prelude.{if◌then◌else◌}
use Rattle.std.specs.List.{flat_map, list_all}
use Rattle.lw_words.specs.Lines.{LogicalLine}

-- a byte `0` or `1`
abbrev pub is_digit : ℕ → Bool
is_digit b = b == 48 || b == 49

abbrev pub is_one : ℕ → Bool
is_one b = b == 49

-- the bytes of a line's words, put together
abbrev pub digits_of : LogicalLine → List ℕ
digits_of line = flat_map (λ word. word) line.words

-- The words of the line, none of them too long, are together one byte `0` or `1` for each input.
abbrev pub is_vector : ℕ → LogicalLine → Bool
is_vector inputs line = not line.long && nat_eq (length (digits_of line)) inputs && list_all is_digit (digits_of line)

-- the values that the inputs have by the line, in order
abbrev pub vector_of : LogicalLine → List Bool
vector_of line = map is_one (digits_of line)

-- the number of the first line that is no vector
abbrev pub first_fault : ℕ → List LogicalLine → Option ℕ
first_fault inputs [] = None
first_fault inputs (line ∷ lines) = if is_vector inputs line then first_fault inputs lines else Some line.number
