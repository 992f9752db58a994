-- A stream is read piece by piece, in any number of turns that is large enough.
use Rattle.std.proofs.Common.{ℕ, zero, suc, ◌+◌, ◌≡◌, ◌≤◌, ◌<◌, Bool, true, false, List, [], ◌∷◌, ◌++◌, length, Option, Some, None, Result, Ok, Err, refl, ap, sym, ◌∙◌, arith}
use Rattle.std.specs.Prelude.{if◌then◌else◌, ⊤, nat_lt, nat_le, codes, sum_by}
use Rattle.std.specs.List.{list_any, before_first, after_first}
use Rattle.lw_genlib.specs.declared.fault.LibKind.{LibKind}
use Rattle.lw_genlib.specs.declared.fault.LibKind.TheVariants.{Expected, LimitText, LimitCells}
use Rattle.lw_genlib.specs.declared.fault.LibFault.{LibFault}
use Rattle.lw_genlib.specs.declared.fault.LibFault.TheVariants.{Line}
use Rattle.lw_genlib.specs.declared.pin.Field.{Field}
use Rattle.lw_fixed.specs.declared.micro.Micro.{Micro}
use Rattle.lw_genlib.specs.Cells.{CellParts, form_count}
use Rattle.lw_genlib.specs.Streams.{StreamItem, word_on, long_line, text_end, Reading, done, broken, cut_short, and_then, with_rest, on_line, word_by}
use Rattle.lw_genlib.specs.Entries.{FunctionText, Entry, text_from, left_over, delay_from, delay_behind, cell_name, number_of, behind_name, behind_area, behind_gate, behind_pin, behind_target, pin_fields, no_delay, with_delay, target_of, pins_of, entry_begun, no_text, with_end, with_word, is_end}
use Rattle.lw_genlib.specs.Libraries.{CellsSoFar, Piece, next, stopped, unfinished, finished, piece_by, piece, last_piece, pieces, after, outcome_from, Outcome, behind_latch, begins_entry, go_on_with, entry_ended, entry_on, entry_behind, gate_on, opened_by, pin_on, words_behind, with_open, merged_with, is_word}

-- what is left is at most so long
abbrev Within : {A : Type 0} → ℕ → Reading A → Type 0
Within n (done x rest) = length rest ≤ n
Within n (broken fault) = ⊤
Within n cut_short = ⊤

abbrev PieceWithin : ℕ → Piece → Type 0
PieceWithin n (next so_far rest) = length rest ≤ n
PieceWithin n (stopped fault) = ⊤
PieceWithin n unfinished = ⊤
PieceWithin n (finished cells) = ⊤

and_then-within : {A B : Type 0} (n : ℕ) (r : Reading A) (f : A → List StreamItem → Reading B) → Within n r → ((x : A) (rest : List StreamItem) → length rest ≤ n → Within n (f x rest)) → Within n (and_then r f)
and_then-within n (done x rest) f h g = g x rest h
and_then-within n (broken fault) f h g = tt
and_then-within n cut_short f h g = tt

with_rest-within : {A : Type 0} (n : ℕ) (rest : List StreamItem) (r : Result A LibFault) → length rest ≤ n → Within n (with_rest rest r)
with_rest-within n rest (Ok x) h = h
with_rest-within n rest (Err fault) h = tt

if-within : {A : Type 0} (n : ℕ) (b : Bool) (x y : Reading A) → Within n x → Within n y → Within n (if b then x else y)
if-within n true x y h g = h
if-within n false x y h g = g

word_by-within : {A : Type 0} (n : ℕ) (meaning : List ℕ → Result A LibKind) (stream : List StreamItem) → length stream ≤ n → Within n (word_by meaning stream)
word_by-within n meaning [] h = tt
word_by-within n meaning (text_end line ∷ rest) h = tt
word_by-within n meaning (long_line line ∷ rest) h = tt
word_by-within n meaning (word_on line bytes ∷ rest) h = with_rest-within n rest (on_line line (meaning bytes)) (omega arith)

left_over-short : (line : ℕ) (bytes : List ℕ) (rest : List StreamItem) → length (left_over line bytes ++ rest) ≤ 1 + length rest
left_over-short line [] rest = omega arith
left_over-short line (b ∷ bytes) rest = omega arith

text_from-within : (n : ℕ) (text : FunctionText) (stream : List StreamItem) → length stream ≤ n → Within n (text_from text stream)
unfolding text_from
text_from-within n text [] h = tt
text_from-within n text (text_end line ∷ rest) h = tt
text_from-within n text (long_line line ∷ rest) h = tt
text_from-within n text (word_on line bytes ∷ rest) h =
    if-within n (nat_lt text.room (1 + length (before_first is_end bytes))) (broken (Line line LimitText))
    (if list_any is_end bytes then done (with_end (with_word text line (before_first is_end bytes)) line) (left_over line (after_first is_end bytes) ++ rest) else text_from (with_word text line bytes) rest)
    tt
    (if-within n (list_any is_end bytes) (done (with_end (with_word text line (before_first is_end bytes)) line) (left_over line (after_first is_end bytes) ++ rest)) (text_from (with_word text line bytes) rest)
    (let short : length (left_over line (after_first is_end bytes) ++ rest) ≤ 1 + length rest = left_over-short line (after_first is_end bytes) rest in omega arith)
    (text_from-within n (with_word text line bytes) rest (omega arith)))

delay_from-within : (n : ℕ) (fields : List Field) (delay : Micro) (stream : List StreamItem) → length stream ≤ n → Within n (delay_from fields delay stream)
delay_from-within n [] delay stream h = h
delay_from-within n (field ∷ fields) delay stream h =
    and_then-within n (word_by (delay_behind field delay) stream) (λ larger rest. delay_from fields larger rest) (word_by-within n (delay_behind field delay) stream h) (λ larger rest g. delay_from-within n fields larger rest g)

behind_latch-short : (stream : List StreamItem) → length (behind_latch stream) ≤ length stream
unfolding behind_latch
behind_latch-short [] = omega arith
behind_latch-short (text_end line ∷ rest) = omega arith
behind_latch-short (long_line line ∷ rest) = omega arith
behind_latch-short (word_on line bytes ∷ rest) = at (begins_entry bytes) (behind_latch-short rest)
  where
    at : (b : Bool) → length (behind_latch rest) ≤ length rest → length (if b then word_on line bytes ∷ rest else behind_latch rest) ≤ length (word_on line bytes ∷ rest)
    at true h = omega arith
    at false h = omega arith

behind_area-within : (n line : ℕ) (name : List ℕ) (area : Micro) (stream : List StreamItem) → length stream ≤ n → Within n (behind_area line name area stream)
behind_area-within n line name area stream h =
    and_then-within n (text_from no_text stream) (λ text rest. with_rest rest (entry_begun line name area text)) (text_from-within n no_text stream h) (λ text rest g. with_rest-within n rest (entry_begun line name area text) g)

behind_gate-within : (n line : ℕ) (stream : List StreamItem) → length stream ≤ n → Within n (behind_gate line stream)
behind_gate-within n line stream h =
    and_then-within n (word_by cell_name stream) (λ name rest. behind_name line name rest) (word_by-within n cell_name stream h)
    (λ name rest g. and_then-within n (word_by number_of rest) (λ area others. behind_area line name area others) (word_by-within n number_of rest g) (λ area others k. behind_area-within n line name area others k))

behind_pin-within : (n : ℕ) (entry : Entry) (stream : List StreamItem) → length stream ≤ n → Within n (behind_pin entry stream)
behind_pin-within n entry stream h =
    and_then-within n (word_by (target_of (pins_of entry)) stream) (λ target rest. behind_target entry target pin_fields no_delay rest) (word_by-within n (target_of (pins_of entry)) stream h)
    (λ target rest g. and_then-within n (delay_from pin_fields no_delay rest) (λ delay others. done (with_delay entry target delay) others) (delay_from-within n pin_fields no_delay rest g) (λ delay others k. k))

opened_by-within : (n : ℕ) (so_far : CellsSoFar) (r : Reading Entry) → Within n r → Within n (opened_by so_far r)
opened_by-within n so_far r h = and_then-within n r (λ read rest. done (with_open so_far (Some read)) rest) h (λ entry rest g. g)

go_on_with-within : (n : ℕ) (r : Result CellsSoFar LibFault) (f : CellsSoFar → Reading CellsSoFar) → ((b : CellsSoFar) → Within n (f b)) → Within n (go_on_with r f)
go_on_with-within n (Ok so_far) f h = h so_far
go_on_with-within n (Err fault) f h = tt

entry_on-within : (line : ℕ) (bytes : List ℕ) (rest : List StreamItem) (so_far : CellsSoFar) → Within (length rest) (entry_on line bytes rest so_far)
entry_on-within line bytes rest so_far =
    if-within (length rest) (is_word (codes "LATCH") bytes) (done so_far (behind_latch rest))
    (if is_word (codes "GATE") bytes then (if nat_le 4096 (sum_by form_count so_far.cells) then broken (Line line LimitCells) else gate_on so_far line rest) else broken (Line line Expected))
    (behind_latch-short rest)
    (if-within (length rest) (is_word (codes "GATE") bytes) (if nat_le 4096 (sum_by form_count so_far.cells) then broken (Line line LimitCells) else gate_on so_far line rest) (broken (Line line Expected))
    (if-within (length rest) (nat_le 4096 (sum_by form_count so_far.cells)) (broken (Line line LimitCells)) (gate_on so_far line rest) tt
    (opened_by-within (length rest) so_far (behind_gate line rest) (behind_gate-within (length rest) line rest (omega arith)))) tt)

entry_behind-within : (so_far : CellsSoFar) (line : ℕ) (bytes : List ℕ) (rest : List StreamItem) → Within (length rest) (entry_behind so_far line bytes rest)
entry_behind-within so_far line bytes rest = go_on_with-within (length rest) (entry_ended so_far) (entry_on line bytes rest) (entry_on-within line bytes rest)

words_behind-within : (so_far : CellsSoFar) (entry : Option Entry) (line : ℕ) (bytes : List ℕ) (rest : List StreamItem) → Within (length rest) (words_behind so_far entry line bytes rest)
words_behind-within so_far None line bytes rest = entry_behind-within so_far line bytes rest
words_behind-within so_far (Some entry) line bytes rest =
    if-within (length rest) (is_word (codes "PIN") bytes) (pin_on so_far entry rest) (entry_behind so_far line bytes rest)
    (opened_by-within (length rest) so_far (behind_pin entry rest) (behind_pin-within (length rest) entry rest (omega arith))) (entry_behind-within so_far line bytes rest)

piece_by-within : (n : ℕ) (r : Reading CellsSoFar) → Within n r → PieceWithin n (piece_by r)
piece_by-within n (done so_far rest) h = h
piece_by-within n (broken fault) h = tt
piece_by-within n cut_short h = tt

last_piece-within : (n : ℕ) (r : Result (List CellParts) LibFault) → PieceWithin n (last_piece r)
last_piece-within n (Ok cells) = tt
last_piece-within n (Err fault) = tt

piece-within : (so_far : CellsSoFar) (item : StreamItem) (rest : List StreamItem) → PieceWithin (length rest) (piece so_far (item ∷ rest))
unfolding piece
piece-within so_far (text_end line) rest = last_piece-within (length rest) (merged_with so_far.cells so_far.entry)
piece-within so_far (long_line line) rest = tt
piece-within so_far (word_on line bytes) rest = piece_by-within (length rest) (words_behind so_far so_far.entry line bytes rest) (words_behind-within so_far so_far.entry line bytes rest)

after-same : (p : Piece) (n : ℕ) (f g : CellsSoFar → List StreamItem → Outcome) → PieceWithin n p → ((b : CellsSoFar) (rest : List StreamItem) → length rest ≤ n → f b rest ≡ g b rest) → after p f ≡ after p g
after-same (next so_far rest) n f g h e = e so_far rest h
after-same (stopped fault) n f g h e = refl
after-same unfinished n f g h e = refl
after-same (finished cells) n f g h e = refl

no-piece : (so_far : CellsSoFar) → piece so_far [] ≡ unfinished
unfolding piece
no-piece so_far = refl

pieces-enough : (n m : ℕ) (so_far : CellsSoFar) (stream : List StreamItem) → length stream < n → length stream < m → pieces n so_far stream ≡ pieces m so_far stream
unfolding pieces
pieces-enough zero m so_far stream h g = absurd (omega arith)
pieces-enough (suc n) zero so_far stream h g = absurd (omega arith)
pieces-enough (suc n) (suc m) so_far [] h g =
    ap (λ p. after p (pieces n)) (no-piece so_far) ∙ sym (ap (λ p. after p (pieces m)) (no-piece so_far))
pieces-enough (suc n) (suc m) so_far (item ∷ rest) h g =
    after-same (piece so_far (item ∷ rest)) (length rest) (pieces n) (pieces m) (piece-within so_far item rest)
    (λ b left short. pieces-enough n m b left (omega arith) (omega arith))

-- a stream is a piece, and then what follows it
pub outcome-piece : (so_far : CellsSoFar) (stream : List StreamItem) → outcome_from so_far stream ≡ after (piece so_far stream) outcome_from
unfolding outcome_from pieces
outcome-piece so_far [] = ap (λ p. after p (pieces 0)) (no-piece so_far) ∙ sym (ap (λ p. after p outcome_from) (no-piece so_far))
outcome-piece so_far (item ∷ rest) =
    after-same (piece so_far (item ∷ rest)) (length rest) (pieces (suc (length rest))) outcome_from (piece-within so_far item rest)
    (λ b left short. pieces-enough (suc (length rest)) (suc (length left)) b left (omega arith) (omega arith))
