-- The library of a text's lines.
use Rattle.std.specs.Prelude.{ℕ, zero, suc, Bool, nat_le, ◌||◌, List, [], ◌∷◌, ◌++◌, length, sum_by, Option, Some, None}
use Rattle.std.specs.Prelude.{Result, Ok, Err, if◌then◌else◌, codes}
use Rattle.std.specs.Str.{bytes_eq}
use Rattle.lw_words.specs.Lines.{LogicalLine}
use Rattle.lw_genlib.specs.declared.fault.LibKind.TheVariants.{Expected, LongWord, LimitCells}
use Rattle.lw_genlib.specs.declared.fault.LibFault.{LibFault}
use Rattle.lw_genlib.specs.declared.fault.LibFault.TheVariants.{Line}
use Rattle.lw_genlib.specs.Cells.{CellParts, form_count, most_entries}
use Rattle.lw_genlib.specs.Streams.{StreamItem, word_on, long_line, text_end, stream_of, last_number, Reading, done}
use Rattle.lw_genlib.specs.Streams.{broken, cut_short, and_then}
use Rattle.lw_genlib.specs.Entries.{Entry, behind_gate, behind_pin}
use Rattle.lw_genlib.specs.Merging.{merged}

-- what was read: the cells of the entries that are at their end, and the entry whose pins may follow
pub record CellsSoFar : Type 0 where
  pub cells : List CellParts
  pub entry : Option Entry

abbrev pub no_cells : CellsSoFar
no_cells = record { cells = []; entry = None }

abbrev pub with_open : CellsSoFar → Option Entry → CellsSoFar
with_open so_far open_one = record { cells = so_far.cells; entry = open_one }

-- these cells, with no entry whose pins may follow
abbrev pub with_cells : Result (List CellParts) LibFault → Result CellsSoFar LibFault
with_cells (Ok cells) = Ok (record { cells = cells; entry = None })
with_cells (Err fault) = Err fault

-- the cells where the entry, if there is one, is at its end
abbrev pub merged_with : List CellParts → Option Entry → Result (List CellParts) LibFault
merged_with cells None = Ok cells
merged_with cells (Some entry) = merged cells entry

abbrev pub entry_ended : CellsSoFar → Result CellsSoFar LibFault
entry_ended so_far = with_cells (merged_with so_far.cells so_far.entry)

abbrev pub is_word : List ℕ → List ℕ → Bool
is_word word bytes = bytes_eq bytes word

abbrev pub begins_entry : List ℕ → Bool
begins_entry bytes = is_word (codes "GATE") bytes || is_word (codes "LATCH") bytes

-- what follows the words of a latch
unfoldable pub behind_latch : List StreamItem → List StreamItem
behind_latch [] = []
behind_latch (text_end line ∷ rest) = text_end line ∷ rest
behind_latch (long_line line ∷ rest) = long_line line ∷ rest
behind_latch (word_on line bytes ∷ rest) = if begins_entry bytes then word_on line bytes ∷ rest else behind_latch rest

-- the cells so far with what is left of the stream, if there is no fault
abbrev pub go_on_with : Result CellsSoFar LibFault → (CellsSoFar → Reading CellsSoFar) → Reading CellsSoFar
go_on_with (Ok so_far) f = f so_far
go_on_with (Err fault) f = broken fault

-- the cells so far with the entry that is read, whose pins may follow
abbrev pub opened_by : CellsSoFar → Reading Entry → Reading CellsSoFar
opened_by so_far entry = and_then entry (λ read rest. done (with_open so_far (Some read)) rest)

-- the entry that begins with the word `GATE` on this line
abbrev pub gate_on : CellsSoFar → ℕ → List StreamItem → Reading CellsSoFar
gate_on so_far line stream = opened_by so_far (behind_gate line stream)

-- the words of an entry behind a word that begins it
abbrev pub entry_on : ℕ → List ℕ → List StreamItem → CellsSoFar → Reading CellsSoFar
entry_on line bytes rest so_far =
    if is_word (codes "LATCH") bytes then done so_far (behind_latch rest)
    else (if is_word (codes "GATE") bytes
    then (if nat_le most_entries (sum_by form_count so_far.cells) then broken
    (Line line LimitCells) else gate_on so_far line rest)
    else broken (Line line Expected))

-- The tests at the end of an entry come before those of the word that ends it.
abbrev pub entry_behind : CellsSoFar → ℕ → List ℕ → List StreamItem → Reading CellsSoFar
entry_behind so_far line bytes rest = go_on_with (entry_ended so_far) (entry_on line bytes rest)

abbrev pub pin_on : CellsSoFar → Entry → List StreamItem → Reading CellsSoFar
pin_on so_far entry stream = opened_by so_far (behind_pin entry stream)

-- The words `PIN` and those behind it, of an entry whose pins may follow, or a new entry.
abbrev pub words_behind : CellsSoFar → Option Entry → ℕ → List ℕ → List StreamItem → Reading CellsSoFar
words_behind so_far None line bytes rest = entry_behind so_far line bytes rest
words_behind so_far (Some entry) line bytes rest =
    if is_word (codes "PIN") bytes then pin_on so_far entry rest else entry_behind so_far line bytes rest

-- What comes of one pin or one entry: the cells so far with the stream that is left, a fault, nothing yet, or at the
-- end of the text the cells.
pub data Piece : Type 0 where
  next : CellsSoFar → List StreamItem → Piece
  stopped : LibFault → Piece
  unfinished : Piece
  finished : List CellParts → Piece

abbrev pub piece_by : Reading CellsSoFar → Piece
piece_by (done so_far rest) = next so_far rest
piece_by (broken fault) = stopped fault
piece_by cut_short = unfinished

abbrev pub last_piece : Result (List CellParts) LibFault → Piece
last_piece (Ok cells) = finished cells
last_piece (Err fault) = stopped fault

unfoldable pub piece : CellsSoFar → List StreamItem → Piece
piece so_far [] = unfinished
piece so_far (text_end line ∷ rest) = last_piece (merged_with so_far.cells so_far.entry)
piece so_far (long_line line ∷ rest) = stopped (Line line LongWord)
piece so_far (word_on line bytes ∷ rest) = piece_by (words_behind so_far so_far.entry line bytes rest)

-- the first fault, and the cells where the stream comes to the end of the text without one
pub record Outcome : Type 0 where
  pub fault : Option LibFault
  pub cells : List CellParts

-- what follows a piece
abbrev pub after : Piece → (CellsSoFar → List StreamItem → Outcome) → Outcome
after (next so_far rest) others = others so_far rest
after (stopped fault) others = record { fault = Some fault; cells = [] }
after unfinished others = record { fault = None; cells = [] }
after (finished cells) others = record { fault = None; cells = cells }

-- The pieces of a stream, in at most so many turns. Each piece takes a word or more.
unfoldable pub pieces : ℕ → CellsSoFar → List StreamItem → Outcome
pieces zero so_far stream = record { fault = None; cells = [] }
pieces (suc turns) so_far stream = after (piece so_far stream) (pieces turns)

unfoldable pub outcome_from : CellsSoFar → List StreamItem → Outcome
outcome_from so_far stream = pieces (suc (length stream)) so_far stream

unfoldable pub outcome_of : List StreamItem → Outcome
outcome_of stream = outcome_from no_cells stream

abbrev pub cells_or_fault : Option LibFault → List CellParts → Result (List CellParts) LibFault
cells_or_fault (Some fault) cells = Err fault
cells_or_fault None cells = Ok cells

abbrev pub library_by : Outcome → Result (List CellParts) LibFault
library_by outcome = cells_or_fault outcome.fault outcome.cells

-- The cells of all lines of a text, or the first fault.
unfoldable pub library_of : List LogicalLine → Result (List CellParts) LibFault
library_of lines = library_by (outcome_of (stream_of lines ++ text_end (last_number lines) ∷ []))

-- The first fault of lines of a text which may go on: those that are found at its end alone are left out.
unfoldable pub fault_so_far : List LogicalLine → Option LibFault
fault_so_far lines = (outcome_of (stream_of lines)).fault
