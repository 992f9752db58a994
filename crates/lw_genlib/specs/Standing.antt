-- What a reader stands for: the lines that it was given.
use Rattle.std.specs.Prelude.{ℕ, ⊤, ◌≡◌, List, ◌∷◌, ◌++◌, Option, Some, None, Result, Ok, Err, All, MatchResult}
use Rattle.lw_words.specs.Lines.{LogicalLine}
use Rattle.lw_words.specs.Gathering.{IsNoHash}
use Rattle.lw_genlib.specs.declared.fault.LibFault.{LibFault}
use Rattle.lw_genlib.specs.declared.fault.LibFault.TheVariants.{Line, Memory}
use Rattle.lw_genlib.specs.declared.state_parts.Expect.{Expect}
use Rattle.lw_genlib.specs.declared.state_parts.Expect.TheVariants as expect
use Rattle.lw_genlib.specs.declared.state_parts.GateHeader.{GateHeader}
use Rattle.lw_genlib.specs.declared.state_parts.PinDelay.{PinDelay}
use Rattle.lw_genlib.specs.declared.pin.Field.{Field}
use Rattle.lw_genlib.specs.declared.given.Given.{Given}
use Rattle.lw_genlib.specs.declared.reader_state.ReaderState.{ReaderState}
use Rattle.lw_genlib.specs.declared.reader.Status.{Status}
use Rattle.lw_genlib.specs.declared.reader.Status.TheVariants.{Reading, Stopped}
use Rattle.lw_genlib.specs.declared.reader.LibReader.{LibReader}
use Rattle.lw_genlib.specs.Streams.{StreamItem, stream_of, last_number}
use Rattle.lw_genlib.specs.Streams as streams
use Rattle.lw_genlib.specs.Fields.{fields_behind}
use Rattle.lw_genlib.specs.Entries as entry
use Rattle.lw_genlib.specs.Libraries as library

-- the piece whose first words were read, with what follows them
abbrev pub piece_at : library.CellsSoFar → Expect → List StreamItem → library.Piece
piece_at so_far (expect.Piece e) stream = library.piece (library.with_open so_far e) stream
piece_at so_far expect.Latch stream = library.next so_far (library.behind_latch stream)
piece_at so_far (expect.Name gate) stream = library.piece_by (library.gate_on so_far gate stream)
piece_at so_far (expect.Area gate) stream =
    library.piece_by (library.opened_by so_far (entry.behind_name gate.line gate.name stream))
piece_at so_far (expect.Function header text) stream =
    library.piece_by (library.opened_by so_far (entry.behind_words header.line header.name header.area text stream))
piece_at so_far (expect.Pin e) stream = library.piece_by (library.pin_on (library.with_open so_far (Some e)) e stream)
piece_at so_far (expect.Field e pin field) stream =
    library.piece_by
    (library.opened_by (library.with_open so_far (Some e))
    (entry.behind_target e pin.pins (field ∷ fields_behind field) pin.delay stream))

-- what comes of a piece and those behind it
abbrev pub reads_on : library.Piece → library.Outcome
reads_on piece = library.after piece library.outcome_from

-- what comes of more words behind those that were read
unfoldable pub resume : ReaderState → List StreamItem → library.Outcome
resume state stream = reads_on (piece_at state.so_far state.expect stream)

-- The words stop at this fault. Running out of memory is always allowed.
abbrev pub BreaksAt : library.Outcome → LibFault → Type 0
BreaksAt outcome (Line line kind) = outcome.fault ≡ Some (Line line kind)
BreaksAt outcome Memory = ⊤

-- A word was read: what comes of this step, and of the pieces behind it, is what comes of the new state with the rest,
-- or it breaks at this fault.
abbrev pub ReadsOn : streams.Reading library.CellsSoFar → Result ReaderState LibFault → List StreamItem → Type 0
ReadsOn step result rest =
    MatchResult result (λ (new : ReaderState). reads_on (library.piece_by step) ≡ resume new rest)
    (BreaksAt (reads_on (library.piece_by step)))

-- These items were read, whatever follows them, or they break at this fault.
abbrev pub ReadsMore : ReaderState → List StreamItem → Result ReaderState LibFault → Type 0
ReadsMore state items result =
    (rest : List StreamItem)
    → MatchResult result (λ (new : ReaderState). resume state (items ++ rest) ≡ resume new rest)
    (BreaksAt (resume state (items ++ rest)))

-- One more word. Each says too what the fault is where it breaks a rule.

abbrev pub item_of : Given → StreamItem
item_of given = streams.word_on given.line given.word.now

-- it was read where this was expected, whatever follows it
abbrev pub ReadsWord : library.CellsSoFar → Expect → Given → Result ReaderState LibFault → Type 0
ReadsWord so_far expected given result =
    (rest : List StreamItem)
    → MatchResult result
    (λ (new : ReaderState). reads_on (piece_at so_far expected (item_of given ∷ rest)) ≡ resume new rest)
    (BreaksAt (reads_on (piece_at so_far expected (item_of given ∷ rest))))

-- it begins an entry
abbrev pub BeginsEntry : library.CellsSoFar → Given → Result ReaderState LibFault → Type 0
BeginsEntry so_far given result =
    (rest : List StreamItem) → ReadsOn (library.entry_on given.line given.word.now rest so_far) result rest

-- it begins a pin of this entry, if there is one, or another entry
abbrev pub BeginsPiece : library.CellsSoFar → Option entry.Entry → Given → Result ReaderState LibFault → Type 0
BeginsPiece so_far open_one given result = (rest : List StreamItem)
    → ReadsOn (library.words_behind (library.with_open so_far open_one) open_one given.line given.word.now rest) result
    rest

-- it is what is left behind the `;` of a function
abbrev pub EndsFunction : library.CellsSoFar → GateHeader → entry.FunctionText → Given → Result ReaderState LibFault
    → Type 0
EndsFunction so_far header text given result =
    (rest : List StreamItem)
    → ReadsOn (library.opened_by so_far
    (streams.with_rest (entry.left_over given.line given.word.now ++ rest)
    (entry.entry_begun header.line header.name header.area (entry.with_end text given.line)))) result rest

-- what a pin's fields behind this one make of the entry
abbrev pub EndsField : library.CellsSoFar → entry.Entry → PinDelay → Field → ReaderState → Type 0
EndsField so_far e pin field new =
    (rest : List StreamItem)
    → resume new rest ≡ reads_on
    (library.piece_by
    (library.opened_by (library.with_open so_far (Some e))
    (entry.behind_target e pin.pins (fields_behind field) pin.delay rest)))

-- whatever follows the lines
abbrev pub IsAt : Status → ℕ → List LogicalLine → Type 0
IsAt (Reading state) last lines =
    (last ≡ last_number lines)
    × ((rest : List StreamItem) → library.outcome_of (stream_of lines ++ rest) ≡ resume state rest)
IsAt (Stopped fault) last lines =
    (rest : List StreamItem) → BreaksAt (library.outcome_of (stream_of lines ++ rest)) fault

-- The reader was given these lines. Behind a fault it keeps the fault alone.
pub record StandsFor (reader : LibReader) (lines : List LogicalLine) : Type 0 where
  pub at : IsAt reader.status reader.last lines

abbrev pub stop_by : Status → Option LibFault
stop_by (Reading state) = None
stop_by (Stopped fault) = Some fault

-- the fault that a reader answers from then on
abbrev pub stop_of : LibReader → Option LibFault
stop_of reader = stop_by reader.status

-- no word holds `#`
abbrev pub HasNoHash : LogicalLine → Type 0
HasNoHash line = All (All IsNoHash) line.words

-- The answer tells the first fault. Running out of memory is always allowed.
abbrev pub Tells : Result (Unit {0}) LibFault → Option LibFault → Type 0
Tells (Ok u) first = first ≡ None
Tells (Err (Line line kind)) first = first ≡ Some (Line line kind)
Tells (Err Memory) first = ⊤
