-- The cells of a text, or a fault of it on a line, cannot fail to be there: a library's fault is never that memory ran out.
use Rattle.std.proofs.Common.{ℕ, zero, suc, ◌+◌, ◌≡◌, inl, inr, Bool, true, false, if◌then◌else◌, List, [], ◌∷◌, ◌++◌, length, Option, Some, None, Result, Ok, Err, refl}
use Rattle.std.specs.Prelude.{nat_le, nat_lt, codes, sum_by, slice_index_or}
use Rattle.std.specs.List.{list_any, before_first}
use Rattle.lw_fixed.specs.declared.micro.Micro.{Micro}
use Rattle.lw_words.specs.Lines.{LogicalLine}
use Rattle.lw_genlib.specs.declared.token.Token.{Token}
use Rattle.lw_genlib.specs.declared.pin.Field.{Field}
use Rattle.lw_genlib.specs.declared.fault.LibKind.{LibKind}
use Rattle.lw_genlib.specs.declared.fault.LibFault.{LibFault}
use Rattle.lw_genlib.specs.declared.fault.LibFault.TheVariants.{Line, Memory}
use Rattle.lw_genlib.specs.Cells.{CellParts, form_count, most_entries}
use Rattle.lw_genlib.specs.Functions.{first_fault, fault_or, token_fault}
use Rattle.lw_genlib.specs.Streams.{StreamItem, word_on, long_line, text_end, stream_of, last_number, Reading, done, broken, cut_short, and_then, with_rest, on_line, word_by}
use Rattle.lw_genlib.specs.Entries.{FunctionText, text_from, Entry, entry_begun, behind_gate, behind_pin, behind_target, delay_from, delay_behind, number_of, cell_name, target_of, pins_of, with_delay, pin_fields, no_delay, no_text, entry_by, behind_area, behind_name, is_end, with_word}
use Rattle.lw_genlib.specs.Merging.{merged, merged_at, agrees, cell_of, lacks_delay, place_of}
use Rattle.lw_genlib.specs.Libraries.{CellsSoFar, no_cells, with_open, is_word, merged_with, with_cells, entry_ended, go_on_with, entry_on, entry_behind, words_behind, Piece, next, stopped, unfinished, finished, piece_by, last_piece, piece, Outcome, after, pieces, outcome_from, outcome_of, library_of, library_by, cells_or_fault}
use Rattle.lw_files.specs.declared.fault.FileFault.{FileFault}
use Rattle.lw_files.specs.declared.fault.FileFault.TheVariants.{Library}
use Rattle.lw_files.specs.Steps.{Files}
use Rattle.lw_files.specs.Sources.{text_of, lines_in, ReadsLibrary}
use Rattle.lw_exists.specs.Weakly.{Weakly}
use Rattle.lw_exists.proofs.Weak.{sure}

-- the fault is on a line
abbrev IsOnLine : LibFault → Type 0
IsOnLine (Line line kind) = Unit {0}
IsOnLine Memory = ⊥

-- so is the fault, if there is one
abbrev OnLine : {A : Type 0} → Result A LibFault → Type 0
OnLine (Ok x) = Unit {0}
OnLine (Err fault) = IsOnLine fault

abbrev ReadsOnLine : {A : Type 0} → Reading A → Type 0
ReadsOnLine (done x rest) = Unit {0}
ReadsOnLine (broken fault) = IsOnLine fault
ReadsOnLine cut_short = Unit {0}

abbrev MaybeOnLine : Option LibFault → Type 0
MaybeOnLine None = Unit {0}
MaybeOnLine (Some fault) = IsOnLine fault

reads_if : {A : Type 0} (b : Bool) (x y : Reading A) → ReadsOnLine x → ReadsOnLine y → ReadsOnLine (if b then x else y)
reads_if true x y p q = p
reads_if false x y p q = q

result_if : {A : Type 0} (b : Bool) (x y : Result A LibFault) → OnLine x → OnLine y → OnLine (if b then x else y)
result_if true x y p q = p
result_if false x y p q = q

then_line : {A B : Type 0} (r : Reading A) (f : A → List StreamItem → Reading B) → ReadsOnLine r → ((x : A) (rest : List StreamItem) → ReadsOnLine (f x rest)) → ReadsOnLine (and_then r f)
then_line (done x rest) f on each = each x rest
then_line (broken fault) f on each = on
then_line cut_short f on each = tt

rest_line : {A : Type 0} (rest : List StreamItem) (r : Result A LibFault) → OnLine r → ReadsOnLine (with_rest rest r)
rest_line rest (Ok x) on = tt
rest_line rest (Err fault) on = on

kind_line : {A : Type 0} (line : ℕ) (r : Result A LibKind) → OnLine (on_line line r)
kind_line line (Ok x) = tt
kind_line line (Err kind) = tt

word_line : {A : Type 0} (meaning : List ℕ → Result A LibKind) (stream : List StreamItem) → ReadsOnLine (word_by meaning stream)
word_line meaning [] = tt
word_line meaning (text_end line ∷ rest) = tt
word_line meaning (long_line line ∷ rest) = tt
word_line meaning (word_on line bytes ∷ rest) = rest_line rest (on_line line (meaning bytes)) (kind_line line (meaning bytes))

text_line : (text : FunctionText) (stream : List StreamItem) → ReadsOnLine (text_from text stream)
unfolding text_from
text_line text [] = tt
text_line text (text_end line ∷ rest) = tt
text_line text (long_line line ∷ rest) = tt
text_line text (word_on line bytes ∷ rest) =
    reads_if (nat_lt text.room (1 + length (before_first is_end bytes))) _ _ tt (reads_if (list_any is_end bytes) _ _ tt (text_line (with_word text line bytes) rest))

kind_or : (line : ℕ) (kind : Option LibKind) (other : Option LibFault) → MaybeOnLine other → MaybeOnLine (fault_or line kind other)
kind_or line (Some kind) other on = tt
kind_or line None other on = on

tokens_line : (before : List Token) (lines : List ℕ) (tokens : List Token) → MaybeOnLine (first_fault before lines tokens)
unfolding first_fault
tokens_line before [] [] = tt
tokens_line before (line ∷ lines) [] = tt
tokens_line before [] (token ∷ tokens) = tt
tokens_line before (line ∷ lines) (token ∷ tokens) =
    kind_or line (token_fault before token) (first_fault (before ++ token ∷ []) lines tokens) (tokens_line (before ++ token ∷ []) lines tokens)

entry_line : (line : ℕ) (name : List ℕ) (area : Micro) (text : FunctionText) (o : Option LibFault) → MaybeOnLine o → OnLine (entry_by line name area text o)
entry_line line name area text None on = tt
entry_line line name area text (Some fault) on = on

gate_line : (line : ℕ) (stream : List StreamItem) → ReadsOnLine (behind_gate line stream)
gate_line line stream =
    then_line (word_by cell_name stream) (λ name rest. behind_name line name rest) (word_line cell_name stream) (λ name rest.
    then_line (word_by number_of rest) (λ area left. behind_area line name area left) (word_line number_of rest) (λ area left.
    then_line (text_from no_text left) (λ whole end. with_rest end (entry_begun line name area whole)) (text_line no_text left) (λ whole end.
    rest_line end (entry_begun line name area whole) (entry_line line name area whole (first_fault [] whole.lines whole.tokens) (tokens_line [] whole.lines whole.tokens)))))

delay_line : (fields : List Field) (delay : Micro) (stream : List StreamItem) → ReadsOnLine (delay_from fields delay stream)
delay_line [] delay stream = tt
delay_line (field ∷ fields) delay stream =
    then_line (word_by (delay_behind field delay) stream) (λ larger rest. delay_from fields larger rest) (word_line (delay_behind field delay) stream) (λ larger rest. delay_line fields larger rest)

pin_line : (entry : Entry) (stream : List StreamItem) → ReadsOnLine (behind_pin entry stream)
pin_line entry stream =
    then_line (word_by (target_of (pins_of entry)) stream) (λ target rest. behind_target entry target pin_fields no_delay rest) (word_line (target_of (pins_of entry)) stream) (λ target rest.
    then_line (delay_from pin_fields no_delay rest) (λ delay left. done (with_delay entry target delay) left) (delay_line pin_fields no_delay rest) (λ delay left. tt))

place_line : (cells : List CellParts) (entry : Entry) (place : Option ℕ) → OnLine (merged_at cells entry place)
place_line cells entry None = tt
place_line cells entry (Some place) = result_if (agrees (slice_index_or cells place (cell_of entry)) entry) _ _ tt tt

merged_line : (cells : List CellParts) (entry : Entry) → OnLine (merged cells entry)
unfolding merged
merged_line cells entry = result_if (lacks_delay entry) _ _ tt (place_line cells entry (place_of cells entry))

with_line : (cells : List CellParts) (entry : Option Entry) → OnLine (merged_with cells entry)
with_line cells None = tt
with_line cells (Some entry) = merged_line cells entry

cells_line : (r : Result (List CellParts) LibFault) → OnLine r → OnLine (with_cells r)
cells_line (Ok cells) on = tt
cells_line (Err fault) on = on

go_line : (r : Result CellsSoFar LibFault) (f : CellsSoFar → Reading CellsSoFar) → OnLine r → ((so_far : CellsSoFar) → ReadsOnLine (f so_far)) → ReadsOnLine (go_on_with r f)
go_line (Ok so_far) f on each = each so_far
go_line (Err fault) f on each = on

entry_on_line : (line : ℕ) (bytes : List ℕ) (rest : List StreamItem) (so_far : CellsSoFar) → ReadsOnLine (entry_on line bytes rest so_far)
entry_on_line line bytes rest so_far =
    reads_if (is_word (codes "LATCH") bytes) _ _ tt (reads_if (is_word (codes "GATE") bytes) _ _ (reads_if (nat_le most_entries (sum_by form_count so_far.cells)) _ _ tt (then_line (behind_gate line rest) (λ read left. done (with_open so_far (Some read)) left) (gate_line line rest) (λ read left. tt))) tt)

behind_line : (so_far : CellsSoFar) (line : ℕ) (bytes : List ℕ) (rest : List StreamItem) → ReadsOnLine (entry_behind so_far line bytes rest)
behind_line so_far line bytes rest =
    go_line (entry_ended so_far) (entry_on line bytes rest) (cells_line (merged_with so_far.cells so_far.entry) (with_line so_far.cells so_far.entry)) (entry_on_line line bytes rest)

words_line : (so_far : CellsSoFar) (entry : Option Entry) (line : ℕ) (bytes : List ℕ) (rest : List StreamItem) → ReadsOnLine (words_behind so_far entry line bytes rest)
words_line so_far None line bytes rest = behind_line so_far line bytes rest
words_line so_far (Some entry) line bytes rest =
    reads_if (is_word (codes "PIN") bytes) _ _ (then_line (behind_pin entry rest) (λ read left. done (with_open so_far (Some read)) left) (pin_line entry rest) (λ read left. tt)) (behind_line so_far line bytes rest)

abbrev StopsOnLine : Piece → Type 0
StopsOnLine (next so_far rest) = Unit {0}
StopsOnLine (stopped fault) = IsOnLine fault
StopsOnLine unfinished = Unit {0}
StopsOnLine (finished cells) = Unit {0}

by_reading : (r : Reading CellsSoFar) → ReadsOnLine r → StopsOnLine (piece_by r)
by_reading (done so_far rest) on = tt
by_reading (broken fault) on = on
by_reading cut_short on = tt

by_last : (r : Result (List CellParts) LibFault) → OnLine r → StopsOnLine (last_piece r)
by_last (Ok cells) on = tt
by_last (Err fault) on = on

piece_line : (so_far : CellsSoFar) (stream : List StreamItem) → StopsOnLine (piece so_far stream)
unfolding piece
piece_line so_far [] = tt
piece_line so_far (text_end line ∷ rest) = by_last (merged_with so_far.cells so_far.entry) (with_line so_far.cells so_far.entry)
piece_line so_far (long_line line ∷ rest) = tt
piece_line so_far (word_on line bytes ∷ rest) = by_reading (words_behind so_far so_far.entry line bytes rest) (words_line so_far so_far.entry line bytes rest)

after_line : (p : Piece) (others : CellsSoFar → List StreamItem → Outcome) → StopsOnLine p → ((so_far : CellsSoFar) (rest : List StreamItem) → MaybeOnLine (others so_far rest).fault) → MaybeOnLine (after p others).fault
after_line (next so_far rest) others on each = each so_far rest
after_line (stopped fault) others on each = on
after_line unfinished others on each = tt
after_line (finished cells) others on each = tt

pieces_line : (turns : ℕ) (so_far : CellsSoFar) (stream : List StreamItem) → MaybeOnLine (pieces turns so_far stream).fault
unfolding pieces
pieces_line zero so_far stream = tt
pieces_line (suc turns) so_far stream = after_line (piece so_far stream) (pieces turns) (piece_line so_far stream) (pieces_line turns)

by_outcome : (o : Outcome) → MaybeOnLine o.fault → OnLine (library_by o)
by_outcome o on = by_fault o.fault on
  where
    by_fault : (f : Option LibFault) → MaybeOnLine f → OnLine (cells_or_fault f o.cells)
    by_fault None on = tt
    by_fault (Some fault) on = on

-- a fault of a library is on a line
library_line : (lines : List LogicalLine) → OnLine (library_of lines)
unfolding library_of outcome_of outcome_from
library_line lines =
    by_outcome (outcome_of (stream_of lines ++ text_end (last_number lines) ∷ [])) (pieces_line (suc (length (stream_of lines ++ text_end (last_number lines) ∷ []))) no_cells (stream_of lines ++ text_end (last_number lines) ∷ []))

pub some_library : (name : List ℕ) (files : Files) → Weakly ((r : Result (List CellParts) FileFault) × ReadsLibrary name files r)
some_library name files = sure (by_text (text_of name files) refl)
  where
    by_cells : (bytes : List ℕ) → text_of name files ≡ Ok bytes → (r : Result (List CellParts) LibFault) → library_of (lines_in bytes) ≡ r → OnLine r → (r : Result (List CellParts) FileFault) × ReadsLibrary name files r
    by_cells bytes e (Ok cells) is on = (Ok cells, inl (bytes, e, is))
    by_cells bytes e (Err (Line line kind)) is on = (Err (Library line kind), inl (bytes, e, is))
    by_cells bytes e (Err Memory) is on = absurd on

    by_text : (r : Result (List ℕ) FileFault) → text_of name files ≡ r → (r : Result (List CellParts) FileFault) × ReadsLibrary name files r
    by_text (Ok bytes) e = by_cells bytes e (library_of (lines_in bytes)) refl (library_line (lines_in bytes))
    by_text (Err f) e = (Err f, inr (f, e, refl))
