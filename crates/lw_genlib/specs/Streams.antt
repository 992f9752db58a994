-- The words of all lines of a text as one stream, and what is read from its front.
use Rattle.std.specs.Prelude.{ℕ, List, [], ◌∷◌, ◌++◌, map, Result, Ok, Err, if◌then◌else◌}
use Rattle.lw_words.specs.Lines.{LogicalLine}
use Rattle.lw_genlib.specs.declared.fault.LibKind.{LibKind}
use Rattle.lw_genlib.specs.declared.fault.LibKind.TheVariants.{Expected, LongWord}
use Rattle.lw_genlib.specs.declared.fault.LibFault.{LibFault}
use Rattle.lw_genlib.specs.declared.fault.LibFault.TheVariants.{Line}

-- a word and the number of its line, a line with a word that is too long, or the end of the text, by the number of its
-- last line
pub data StreamItem : Type 0 where
  word_on : ℕ → List ℕ → StreamItem
  long_line : ℕ → StreamItem
  text_end : ℕ → StreamItem

abbrev pub items_on : LogicalLine → List StreamItem
items_on line = if line.long then long_line line.number ∷ [] else map (word_on line.number) line.words

unfoldable pub stream_of : List LogicalLine → List StreamItem
stream_of [] = []
stream_of (line ∷ lines) = items_on line ++ stream_of lines

-- the number of the last line, and 0 where there is none
abbrev pub last_number : List LogicalLine → ℕ
last_number [] = 0
last_number (line ∷ []) = line.number
last_number (line ∷ next ∷ lines) = last_number (next ∷ lines)

-- What is read from the front of a stream: a value, and the stream that is left; a fault; or nothing yet, where the
-- stream is cut short.
pub data Reading (A : Type 0) : Type 0 where
  done : A → List StreamItem → Reading A
  broken : LibFault → Reading A
  cut_short : Reading A

abbrev pub and_then : {A B : Type 0} → Reading A → (A → List StreamItem → Reading B) → Reading B
and_then (done x rest) f = f x rest
and_then (broken fault) f = broken fault
and_then cut_short f = cut_short

-- a value with the stream that is left, or the fault
abbrev pub with_rest : {A : Type 0} → List StreamItem → Result A LibFault → Reading A
with_rest rest (Ok x) = done x rest
with_rest rest (Err fault) = broken fault

-- what a word means, or its fault on this line
abbrev pub on_line : {A : Type 0} → ℕ → Result A LibKind → Result A LibFault
on_line line (Ok x) = Ok x
on_line line (Err kind) = Err (Line line kind)

-- The next word, by what it means.
abbrev pub word_by : {A : Type 0} → (List ℕ → Result A LibKind) → List StreamItem → Reading A
word_by meaning [] = cut_short
word_by meaning (text_end line ∷ rest) = broken (Line line Expected)
word_by meaning (long_line line ∷ rest) = broken (Line line LongWord)
word_by meaning (word_on line bytes ∷ rest) = with_rest rest (on_line line (meaning bytes))
