-- What one more word makes of what was read.
use Rattle.std.proofs.Common.{ℕ, ◌+◌, ◌≡◌, ◌<◌, ◌≤◌, Bool, true, false, not, cond, List, [], ◌∷◌, ◌++◌, length, Option, Some, None, Result, Ok, Err, refl, ap, ap₂, sym, ◌∙◌, subst, arith}
use Rattle.std.specs.Prelude.{codes, sum_by, nat_le, nat_lt, ◌==◌, MatchResult, IfSome, IfNone}
use Rattle.std.specs.List.{list_any, before_first, after_first}
use Rattle.std.proofs.lemmas.Bool.Decides.{nat_tests}
use Rattle.lw_fixed.specs.declared.micro.Micro.{Micro}
use Rattle.lw_genlib.specs.declared.pin.Field.{Field}
use Rattle.lw_genlib.specs.declared.pin.Target.{Target}
use Rattle.lw_genlib.specs.declared.fault.LibKind.{LibKind}
use Rattle.lw_genlib.specs.declared.fault.LibKind.TheVariants.{Expected, LimitText, LimitCells}
use Rattle.lw_genlib.specs.declared.fault.LibFault.{LibFault}
use Rattle.lw_genlib.specs.declared.fault.LibFault.TheVariants.{Line, Memory}
use Rattle.lw_genlib.specs.declared.state_parts.Expect.{Expect}
use Rattle.lw_genlib.specs.declared.state_parts.Expect.TheVariants as expect
use Rattle.lw_genlib.specs.declared.state_parts.PinDelay.{PinDelay}
use Rattle.lw_genlib.specs.Cells.{form_count}
use Rattle.lw_genlib.specs.Fields.{fields_behind, fields_from}
use Rattle.lw_genlib.specs.Streams.{StreamItem, word_on, Reading, done, broken, and_then, with_rest, on_line}
use Rattle.lw_genlib.specs.Entries.{FunctionText, Entry, text_from, with_word, with_end, is_end, left_over, entry_begun, cell_name, number_of, behind_name, behind_words, behind_target, target_of, pins_of, pin_fields, no_delay, with_delay, delay_behind, delay_from, larger}
use Rattle.lw_genlib.specs.Libraries.{CellsSoFar, Outcome, next, piece_by, piece, outcome_from, with_open, with_cells, merged_with, entry_ended, entry_on, entry_behind, words_behind, go_on_with, gate_on, opened_by, pin_on, is_word, begins_entry, behind_latch}
use Rattle.lw_genlib.specs.Standing.{piece_at, reads_on, resume, BreaksAt}
use Rattle.lw_genlib.specs.declared.reader_state.ReaderState.{ReaderState}
use Rattle.lw_genlib.proofs.Pieces.{outcome-piece}

-- a whole piece, and then what follows it
pub piece-again : (so_far : CellsSoFar) (rest : List StreamItem) → outcome_from so_far rest ≡ reads_on (piece so_far rest)
piece-again so_far rest = outcome-piece so_far rest

-- a fault
pub breaks : (line : ℕ) (kind : LibKind) (r : Reading CellsSoFar) → r ≡ broken (Line line kind) → BreaksAt (reads_on (piece_by r)) (Line line kind)
breaks line kind r is = ap (λ (x : Reading CellsSoFar). (reads_on (piece_by x)).fault) is

-- Words behind a pin's name.

pub field-next : (so_far : CellsSoFar) (entry : Entry) (pin : PinDelay) (field following : Field) (rest : List StreamItem) → fields_from (Some following) ≡ fields_behind field
    → reads_on (piece_at so_far (expect.Field entry pin following) rest) ≡ reads_on (piece_by (opened_by (with_open so_far (Some entry)) (behind_target entry pin.pins (fields_behind field) pin.delay rest)))
field-next so_far entry pin field following rest is =
    ap (λ (fields : List Field). reads_on (piece_by (opened_by (with_open so_far (Some entry)) (behind_target entry pin.pins fields pin.delay rest)))) is

pub field-last : (so_far : CellsSoFar) (entry more : Entry) (pins : Target) (field : Field) (delay : Micro) (rest : List StreamItem) → fields_from None ≡ fields_behind field → more ≡ with_delay entry pins delay
    → reads_on (piece_at so_far (expect.Piece (Some more)) rest) ≡ reads_on (piece_by (opened_by (with_open so_far (Some entry)) (behind_target entry pins (fields_behind field) delay rest)))
field-last so_far entry more pins field delay rest none is =
    sym (piece-again (with_open so_far (Some more)) rest)
    ∙ (ap (λ (e : Entry). outcome_from (with_open so_far (Some e)) rest) is
    ∙ ap (λ (fields : List Field). reads_on (piece_by (opened_by (with_open so_far (Some entry)) (behind_target entry pins fields delay rest)))) none)

-- A word that begins a pin or an entry.

pub pin-begins : (so_far : CellsSoFar) (entry : Entry) (line : ℕ) (bytes : List ℕ) (rest : List StreamItem) → is_word (codes "PIN") bytes ≡ true → words_behind (with_open so_far (Some entry)) (Some entry) line bytes rest ≡ pin_on (with_open so_far (Some entry)) entry rest
pin-begins so_far entry line bytes rest is = ap (λ b. cond b (pin_on (with_open so_far (Some entry)) entry rest) (entry_behind (with_open so_far (Some entry)) line bytes rest)) is

pub no-pin : (so_far : CellsSoFar) (entry : Entry) (line : ℕ) (bytes : List ℕ) (rest : List StreamItem) → is_word (codes "PIN") bytes ≡ false → words_behind (with_open so_far (Some entry)) (Some entry) line bytes rest ≡ entry_behind (with_open so_far (Some entry)) line bytes rest
no-pin so_far entry line bytes rest is = ap (λ b. cond b (pin_on (with_open so_far (Some entry)) entry rest) (entry_behind (with_open so_far (Some entry)) line bytes rest)) is

pub ended-behind : (so_far new : CellsSoFar) (line : ℕ) (bytes : List ℕ) (rest : List StreamItem) → entry_ended so_far ≡ Ok new → entry_behind so_far line bytes rest ≡ entry_on line bytes rest new
ended-behind so_far new line bytes rest is = ap (λ (r : Result CellsSoFar LibFault). go_on_with r (entry_on line bytes rest)) is

pub ended-fault : (so_far : CellsSoFar) (line : ℕ) (bytes : List ℕ) (rest : List StreamItem) (at : ℕ) (kind : LibKind) → entry_ended so_far ≡ Err (Line at kind) → entry_behind so_far line bytes rest ≡ broken (Line at kind)
ended-fault so_far line bytes rest at kind is = ap (λ (r : Result CellsSoFar LibFault). go_on_with r (entry_on line bytes rest)) is

pub latch-begins : (so_far : CellsSoFar) (line : ℕ) (bytes : List ℕ) (rest : List StreamItem) → is_word (codes "LATCH") bytes ≡ true → entry_on line bytes rest so_far ≡ done so_far (behind_latch rest)
latch-begins so_far line bytes rest is =
    ap (λ b. cond b (done so_far (behind_latch rest)) (cond (is_word (codes "GATE") bytes) (cond (nat_le 4096 (sum_by form_count so_far.cells)) (broken (Line line LimitCells)) (gate_on so_far line rest)) (broken (Line line Expected)))) is

pub gate-begins : (so_far : CellsSoFar) (line : ℕ) (bytes : List ℕ) (rest : List StreamItem) → is_word (codes "LATCH") bytes ≡ false → is_word (codes "GATE") bytes ≡ true → nat_le 4096 (sum_by form_count so_far.cells) ≡ false → entry_on line bytes rest so_far ≡ gate_on so_far line rest
gate-begins so_far line bytes rest latch gate room =
    ap (λ b. cond b (done so_far (behind_latch rest)) (cond (is_word (codes "GATE") bytes) (cond (nat_le 4096 (sum_by form_count so_far.cells)) (broken (Line line LimitCells)) (gate_on so_far line rest)) (broken (Line line Expected)))) latch
    ∙ ap₂ (λ b c. cond b (cond c (broken (Line line LimitCells)) (gate_on so_far line rest)) (broken (Line line Expected))) gate room

-- The words of an entry.

pub name-read : (so_far : CellsSoFar) (gate line : ℕ) (bytes name : List ℕ) (rest : List StreamItem) → cell_name bytes ≡ Ok name → gate_on so_far gate (word_on line bytes ∷ rest) ≡ opened_by so_far (behind_name gate name rest)
name-read so_far gate line bytes name rest is =
    ap (λ (r : Result (List ℕ) LibKind). opened_by so_far (and_then (with_rest rest (on_line line r)) (λ n others. behind_name gate n others))) is

pub area-read : (so_far : CellsSoFar) (gate line : ℕ) (name bytes : List ℕ) (area : Micro) (rest : List StreamItem) (r : Result Micro LibFault) → r ≡ on_line line (number_of bytes) → r ≡ Ok area
    → opened_by so_far (behind_name gate name (word_on line bytes ∷ rest)) ≡ opened_by so_far (behind_words gate name area (record { tokens = []; lines = []; room = 2049 }) rest)
area-read so_far gate line name bytes area rest r said is =
    ap (λ (x : Result Micro LibFault). opened_by so_far (and_then (with_rest rest x) (λ a others. behind_words gate name a (record { tokens = []; lines = []; room = 2049 }) others))) (sym said ∙ is)

-- a value that a word means is the number's
pub number-of_line : (line : ℕ) (r : Result Micro LibKind) (m : Micro) → on_line line r ≡ Ok m → r ≡ Ok m
number-of_line line (Ok x) m is = ap back is
  where
    back : Result Micro LibFault → Result Micro LibKind
    back (Ok y) = Ok y
    back (Err fault) = Err Expected
number-of_line line (Err kind) m is = cc

-- Words of a function.

abbrev text_step : FunctionText → ℕ → List ℕ → List StreamItem → Bool → Bool → Reading FunctionText
text_step text line bytes rest long ends =
    cond long (broken (Line line LimitText))
    (cond ends (done (with_end (with_word text line (before_first is_end bytes)) line) (left_over line (after_first is_end bytes) ++ rest))
    (text_from (with_word text line bytes) rest))

text-next : (text : FunctionText) (line : ℕ) (bytes : List ℕ) (rest : List StreamItem) (long ends : Bool) → nat_lt text.room (1 + length (before_first is_end bytes)) ≡ long → list_any is_end bytes ≡ ends → text_from text (word_on line bytes ∷ rest) ≡ text_step text line bytes rest long ends
unfolding text_from
text-next text line bytes rest long ends longs is = ap₂ (text_step text line bytes rest) longs is

abbrev whole_text : CellsSoFar → ℕ → List ℕ → Micro → Reading FunctionText → Reading CellsSoFar
whole_text so_far gate name area r = opened_by so_far (and_then r (λ whole others. with_rest others (entry_begun gate name area whole)))

pub text-long : (so_far : CellsSoFar) (gate : ℕ) (name : List ℕ) (area : Micro) (text : FunctionText) (line : ℕ) (bytes : List ℕ) (rest : List StreamItem) → nat_lt text.room (1 + length (before_first is_end bytes)) ≡ true
    → opened_by so_far (behind_words gate name area text (word_on line bytes ∷ rest)) ≡ broken (Line line LimitText)
text-long so_far gate name area text line bytes rest long = ap (whole_text so_far gate name area) (text-next text line bytes rest true (list_any is_end bytes) long refl)

pub text-goes_on : (so_far : CellsSoFar) (gate : ℕ) (name : List ℕ) (area : Micro) (text more : FunctionText) (line : ℕ) (bytes : List ℕ) (rest : List StreamItem) → nat_lt text.room (1 + length (before_first is_end bytes)) ≡ false
    → list_any is_end bytes ≡ false → more ≡ with_word text line bytes → opened_by so_far (behind_words gate name area text (word_on line bytes ∷ rest)) ≡ opened_by so_far (behind_words gate name area more rest)
text-goes_on so_far gate name area text more line bytes rest long ends is =
    ap (whole_text so_far gate name area) (text-next text line bytes rest false false long ends ∙ ap (λ (t : FunctionText). text_from t rest) (sym is))

pub text-ends : (so_far : CellsSoFar) (gate : ℕ) (name : List ℕ) (area : Micro) (text more : FunctionText) (line : ℕ) (bytes : List ℕ) (rest : List StreamItem) (r : Result Entry LibFault) → nat_lt text.room (1 + length (before_first is_end bytes)) ≡ false
    → list_any is_end bytes ≡ true → more ≡ with_word text line (before_first is_end bytes) → entry_begun gate name area (with_end more line) ≡ r
    → opened_by so_far (behind_words gate name area text (word_on line bytes ∷ rest)) ≡ opened_by so_far (with_rest (left_over line (after_first is_end bytes) ++ rest) r)
text-ends so_far gate name area text more line bytes rest r long ends is begun =
    ap (whole_text so_far gate name area) (text-next text line bytes rest false true long ends)
    ∙ ap (λ (x : Result Entry LibFault). opened_by so_far (with_rest (left_over line (after_first is_end bytes) ++ rest) x)) (ap (λ (t : FunctionText). entry_begun gate name area (with_end t line)) (sym is) ∙ begun)

-- Pins.

pub pin-read : (so_far : CellsSoFar) (entry : Entry) (line : ℕ) (bytes : List ℕ) (pins : Target) (rest : List StreamItem) (r : Result Target LibFault) → r ≡ on_line line (target_of (pins_of entry) bytes) → r ≡ Ok pins
    → pin_on so_far entry (word_on line bytes ∷ rest) ≡ opened_by so_far (behind_target entry pins pin_fields no_delay rest)
pin-read so_far entry line bytes pins rest r said is =
    ap (λ (x : Result Target LibFault). opened_by so_far (and_then (with_rest rest x) (λ t others. behind_target entry t pin_fields no_delay others))) (sym said ∙ is)

abbrev field_step : CellsSoFar → Entry → Target → Field → List StreamItem → Result Micro LibFault → Reading CellsSoFar
field_step so_far entry pins field rest r = opened_by so_far (and_then (and_then (with_rest rest r) (λ larger others. delay_from (fields_behind field) larger others)) (λ delay others. done (with_delay entry pins delay) others))

pub field-read : (so_far : CellsSoFar) (entry : Entry) (pins : Target) (field : Field) (delay more : Micro) (line : ℕ) (bytes : List ℕ) (rest : List StreamItem) (r : Result Micro LibFault) → r ≡ on_line line (delay_behind field delay bytes) → r ≡ Ok more
    → opened_by so_far (behind_target entry pins (field ∷ fields_behind field) delay (word_on line bytes ∷ rest)) ≡ opened_by so_far (behind_target entry pins (fields_behind field) more rest)
field-read so_far entry pins field delay more line bytes rest r said is = ap (field_step so_far entry pins field rest) (sym said ∙ is)

pub field-fault : (so_far : CellsSoFar) (entry : Entry) (pins : Target) (field : Field) (delay : Micro) (fault : LibFault) (line : ℕ) (bytes : List ℕ) (rest : List StreamItem) (r : Result Micro LibFault) → r ≡ on_line line (delay_behind field delay bytes) → r ≡ Err fault
    → opened_by so_far (behind_target entry pins (field ∷ fields_behind field) delay (word_on line bytes ∷ rest)) ≡ broken fault
field-fault so_far entry pins field delay fault line bytes rest r said is = ap (field_step so_far entry pins field rest) (sym said ∙ is)

pub same-piece : (r s : Reading CellsSoFar) → r ≡ s → reads_on (piece_by r) ≡ reads_on (piece_by s)
same-piece r s is = ap (λ (x : Reading CellsSoFar). reads_on (piece_by x)) is

pub room-left : (n : ℕ) → n < 4096 → nat_le 4096 n ≡ false
room-left n h = grind (arith, nat_tests)

pub not-false : (b : Bool) → false ≡ not b → b ≡ true
not-false true e = refl
not-false false e = cc

pub moved : {P : Type 0} (r s : Reading CellsSoFar) (result : Result P LibFault) (next_of : P → Outcome) → r ≡ s
    → MatchResult result (λ (new : P). reads_on (piece_by s) ≡ next_of new) (BreaksAt (reads_on (piece_by s)))
    → MatchResult result (λ (new : P). reads_on (piece_by r) ≡ next_of new) (BreaksAt (reads_on (piece_by r)))
moved r s result next_of is h =
    subst (λ (x : Reading CellsSoFar). MatchResult result (λ new. reads_on (piece_by x) ≡ next_of new) (BreaksAt (reads_on (piece_by x)))) (sym is) h

pub open-none : (so_far : CellsSoFar) → so_far.entry ≡ None → with_open so_far None ≡ so_far
open-none so_far none = ap (λ (e : Option Entry). with_open so_far e) (sym none)

-- behind the `;`
pub function-ends : (so_far : CellsSoFar) (entry : Entry) (gate : ℕ) (name : List ℕ) (area : Micro) (text : FunctionText) (line : ℕ) (left : List ℕ) (rest : List StreamItem) → entry_begun gate name area (with_end text line) ≡ Ok entry
    → reads_on (piece_by (opened_by so_far (with_rest (left_over line left ++ rest) (entry_begun gate name area (with_end text line))))) ≡ reads_on (piece (with_open so_far (Some entry)) (left_over line left ++ rest))
function-ends so_far entry gate name area text line left rest begun =
    ap (λ (r : Result Entry LibFault). reads_on (piece_by (opened_by so_far (with_rest (left_over line left ++ rest) r)))) begun
    ∙ piece-again (with_open so_far (Some entry)) (left_over line left ++ rest)

pub outcome-moved : {P : Type 0} (result : Result P LibFault) (next_of : P → Outcome) (a b : Outcome) → a ≡ b → MatchResult result (λ (new : P). b ≡ next_of new) (BreaksAt b) → MatchResult result (λ (new : P). a ≡ next_of new) (BreaksAt a)
outcome-moved result next_of a b is h = subst (λ (o : Outcome). MatchResult result (λ new. o ≡ next_of new) (BreaksAt o)) (sym is) h

pub left-empty : (line : ℕ) (left : List ℕ) (rest : List StreamItem) → left ≡ [] → left_over line left ++ rest ≡ rest
left-empty line left rest is = ap (λ (bs : List ℕ). left_over line bs ++ rest) is

pub left-some : (so_far : CellsSoFar) (entry : Entry) (line : ℕ) (left : List ℕ) (rest : List StreamItem) → (left ≡ [] → ⊥) → piece (with_open so_far (Some entry)) (left_over line left ++ rest) ≡ piece_by (words_behind (with_open so_far (Some entry)) (Some entry) line left rest)
unfolding piece
left-some so_far entry line [] rest some = absurd (some refl)
left-some so_far entry line (b ∷ left) rest some = refl

pub empty-list : (xs : List ℕ) → true ≡ (length xs == 0) → xs ≡ []
empty-list [] e = refl
empty-list (x ∷ xs) e = let some : (length (x ∷ xs) == 0) ≡ false = grind (arith, nat_tests) in cc

pub some-list : (xs : List ℕ) → false ≡ (length xs == 0) → xs ≡ [] → ⊥
some-list [] e is = cc
some-list (x ∷ xs) e is = cc

pub room-lacks : (room size : ℕ) → room ≤ size → nat_lt room (1 + size) ≡ true
room-lacks room size h = grind (arith, nat_tests)

pub room-holds : (room size : ℕ) → size < room → nat_lt room (1 + size) ≡ false
room-holds room size h = grind (arith, nat_tests)

pub if-none : {A : Type 0} (o : Option A) (P : Type 0) → o ≡ None → IfNone o P → P
if-none o P is h = subst (λ x. IfNone x P) is h

pub if-some : {A : Type 0} (o : Option A) (x : A) (P : A → Type 0) → o ≡ Some x → IfSome o P → P x
if-some o x P is h = subst (λ y. IfSome y P) is h

pub breaks-any : (fault : LibFault) (r : Reading CellsSoFar) → r ≡ broken fault → BreaksAt (reads_on (piece_by r)) fault
breaks-any (Line line kind) r is = breaks line kind r is
breaks-any Memory r is = tt

pub larger-fault : (line : ℕ) (delay : Micro) (r : Result Micro LibKind) (fault : LibFault) → Err fault ≡ on_line line r → Err fault ≡ on_line line (larger delay r)
larger-fault line delay (Ok x) fault e = cc
larger-fault line delay (Err kind) fault e = e

pub resume-at : (state : ReaderState) (p : Expect) (stream : List StreamItem) → state.expect ≡ p → resume state stream ≡ reads_on (piece_at state.so_far p stream)
unfolding resume
resume-at state p stream is = ap (λ (q : Expect). reads_on (piece_at state.so_far q stream)) is

pub word-at : {P : Type 0} (result : Result P LibFault) (next_of : P → Outcome) (state : ReaderState) (p : Expect) (stream : List StreamItem) (b : Outcome) → state.expect ≡ p → reads_on (piece_at state.so_far p stream) ≡ b
    → MatchResult result (λ (new : P). b ≡ next_of new) (BreaksAt b) → MatchResult result (λ (new : P). resume state stream ≡ next_of new) (BreaksAt (resume state stream))
word-at result next_of state p stream b is same h = outcome-moved result next_of (resume state stream) b (resume-at state p stream is ∙ same) h

pub piece-word : (so_far : CellsSoFar) (entry : Option Entry) (line : ℕ) (bytes : List ℕ) (rest : List StreamItem) → piece (with_open so_far entry) (word_on line bytes ∷ rest) ≡ piece_by (words_behind (with_open so_far entry) entry line bytes rest)
unfolding piece
piece-word so_far entry line bytes rest = refl

piece-plain : (so_far : CellsSoFar) (line : ℕ) (bytes : List ℕ) (rest : List StreamItem) → piece so_far (word_on line bytes ∷ rest) ≡ piece_by (words_behind so_far so_far.entry line bytes rest)
unfolding piece
piece-plain so_far line bytes rest = refl

latch-stops : (line : ℕ) (bytes : List ℕ) (rest : List StreamItem) → begins_entry bytes ≡ true → behind_latch (word_on line bytes ∷ rest) ≡ word_on line bytes ∷ rest
unfolding behind_latch
latch-stops line bytes rest is = ap (λ b. cond b (word_on line bytes ∷ rest) (behind_latch rest)) is

pub latch-goes_on : (line : ℕ) (bytes : List ℕ) (rest : List StreamItem) → begins_entry bytes ≡ false → behind_latch (word_on line bytes ∷ rest) ≡ behind_latch rest
unfolding behind_latch
latch-goes_on line bytes rest is = ap (λ b. cond b (word_on line bytes ∷ rest) (behind_latch rest)) is

abbrev as_ok : CellsSoFar → Result CellsSoFar LibFault
as_ok so_far = Ok so_far

no-entry : (so_far : CellsSoFar) → so_far.entry ≡ None → entry_ended so_far ≡ Ok so_far
no-entry so_far none = ap (λ (e : Option Entry). with_cells (merged_with so_far.cells e)) none ∙ ap as_ok (open-none so_far none)

pub latch-word : (so_far : CellsSoFar) (line : ℕ) (bytes : List ℕ) (rest : List StreamItem) → so_far.entry ≡ None → begins_entry bytes ≡ true → reads_on (next so_far (behind_latch (word_on line bytes ∷ rest))) ≡ reads_on (piece_by (entry_on line bytes rest so_far))
latch-word so_far line bytes rest none is =
    ap (outcome_from so_far) (latch-stops line bytes rest is)
    ∙ (piece-again so_far (word_on line bytes ∷ rest)
    ∙ (ap reads_on (piece-plain so_far line bytes rest)
    ∙ (ap (λ (e : Option Entry). reads_on (piece_by (words_behind so_far e line bytes rest))) none
    ∙ ap (λ (r : Result CellsSoFar LibFault). reads_on (piece_by (go_on_with r (entry_on line bytes rest)))) (no-entry so_far none))))
