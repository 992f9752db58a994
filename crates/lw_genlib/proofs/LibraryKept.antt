-- The cells of a text are a library.
use Rattle.std.proofs.Common.{ℕ, zero, suc, ◌+◌, ◌-◌, ◌<◌, ◌≤◌, ◌≡◌, Bool, true, false, ◌&&◌, ◌==◌, List, [], ◌∷◌, ◌++◌, map, length, take, drop, get_or, Option, Some, None, Result, Ok, Err, if◌then◌else◌, refl, ap, sym, ◌∙◌, subst, arith, length-append}
use Rattle.std.specs.Prelude.{All, nat_lt, nat_le, sum_by, replicate, slice_index, codes}
use Rattle.std.specs.List.{AllByRecursion, list_any, list_all, slice_set, before_first, after_first, zip}
use Rattle.std.specs.Str.{bytes_eq}
use Rattle.std.proofs.lemmas.Bool.{false≢true, leb-false, leb-true, and_parts}
use Rattle.std.proofs.lemmas.List.{length-set, length-drop, length-take}
use Rattle.std.proofs.lemmas.List.Elements.{All-set, recursion_from_All}
use Rattle.std.proofs.lemmas.List.Quantifiers.{position-Some}
use Rattle.lw_fixed.specs.declared.micro.Micro.{Micro}
use Rattle.lw_laws.specs.Expressions.{Expr}
use Rattle.lw_words.specs.Lines.{LogicalLine}
use Rattle.lw_genlib.specs.declared.token.Token.{Token}
use Rattle.lw_genlib.specs.declared.token.Token.TheVariants.{Punct}
use Rattle.lw_genlib.specs.declared.fault.LibKind.{LibKind}
use Rattle.lw_genlib.specs.declared.fault.LibKind.TheVariants.{Expected, LimitText, PinMissing, CellDiffers, LimitCells}
use Rattle.lw_genlib.specs.declared.fault.LibFault.{LibFault}
use Rattle.lw_genlib.specs.declared.fault.LibFault.TheVariants.{Line}
use Rattle.lw_genlib.specs.declared.pin.Field.{Field}
use Rattle.lw_genlib.specs.declared.pin.Target.{Target}
use Rattle.lw_genlib.specs.declared.pin.Target.TheVariants.{Every, One}
use Rattle.lw_genlib.specs.Postfix.{first_expr}
use Rattle.lw_genlib.specs.Grammar.{go_on}
use Rattle.lw_genlib.specs.Cells.{CellParts, IsWord, IsPart, IsSmall, IsForm, IsCell, IsListed, IsLibrary, form_count, is_word_byte}
use Rattle.lw_genlib.specs.Functions.{IsText, pins_in, first_fault}
use Rattle.lw_genlib.specs.Spelled.{expression_of, inner_of}
use Rattle.lw_genlib.specs.Streams.{StreamItem, word_on, long_line, text_end, stream_of, items_on, last_number, Reading, done, broken, cut_short, and_then, with_rest, on_line, word_by}
use Rattle.lw_genlib.specs.Entries.{Entry, FunctionText, no_text, with_word, with_end, is_end, left_over, text_from, cell_name, is_quoted, is_quote_alone, number_of, delay_behind, delay_from, no_delay, with_delay, pins_of, target_of, pin_fields, entry_by, entry_begun, behind_area, behind_name, behind_gate, behind_target, behind_pin}
use Rattle.lw_genlib.specs.Merging.{name_first, output_of, lacks_delay, delays_of, form_over, cell_of, with_form, is_alike, have_same_table, agrees, merged_at, place_of, merged}
use Rattle.lw_genlib.specs.Libraries.{CellsSoFar, no_cells, with_open, with_cells, merged_with, is_word, begins_entry, behind_latch, go_on_with, opened_by, gate_on, entry_on, entry_behind, pin_on, words_behind, Piece, next, stopped, unfinished, finished, piece_by, last_piece, piece, Outcome, after, pieces, outcome_from, outcome_of, cells_or_fault, library_of}
use Rattle.lw_genlib.specs.Kept.{IsOpenText, IsSmallDelay, AreCells, IsEntry}
use Rattle.lw_genlib.specs.Expects.{HasRoom}
use Rattle.lw_genlib.proofs.Small.{small_number, small-behind}
use Rattle.lw_genlib.proofs.Delays.{no-delays}
use Rattle.lw_genlib.proofs.Begun.{function-kept}
use Rattle.lw_genlib.proofs.Fronts.{spells_read, function_says}
use Rattle.lw_genlib.proofs.Texts.{all-take, word-kept, before-part, before-none, before-plain}
use Rattle.lw_genlib.proofs.Tables.{truth-of_table}
use Rattle.lw_genlib.proofs.Agreeing.{Mergeable, mergeable, inner-is}
use Rattle.lw_genlib.proofs.MergeLemmas.{cell-with_form, cells-more, cells-merged, no-cells}
use Rattle.lw_genlib.proofs.Listed.{listed-cell, missing, none-missing, no-place}

-- Words of a stream

abbrev pub AreWords : List StreamItem → Type 0
AreWords [] = Unit {0}
AreWords (word_on line bytes ∷ rest) = IsWord 4095 bytes × AreWords rest
AreWords (long_line line ∷ rest) = AreWords rest
AreWords (text_end line ∷ rest) = AreWords rest

words-both : (xs ys : List StreamItem) → AreWords xs → AreWords ys → AreWords (xs ++ ys)
words-both [] ys a b = b
words-both (word_on line bytes ∷ xs) ys a b = (a.0, words-both xs ys a.1 b)
words-both (long_line line ∷ xs) ys a b = words-both xs ys a b
words-both (text_end line ∷ xs) ys a b = words-both xs ys a b

-- a reading comes to what this holds of, and leaves words
abbrev ReadsTo : {A : Type 0} → (A → Type 0) → Reading A → Type 0
ReadsTo P (done x rest) = P x × AreWords rest
ReadsTo P (broken fault) = Unit {0}
ReadsTo P cut_short = Unit {0}

reads-then : {A B : Type 0} (P : A → Type 0) (Q : B → Type 0) (r : Reading A) (f : A → List StreamItem → Reading B) → ReadsTo P r → ((x : A) (rest : List StreamItem) → P x → AreWords rest → ReadsTo Q (f x rest)) → ReadsTo Q (and_then r f)
reads-then P Q (done x rest) f p g = g x rest p.0 p.1
reads-then P Q (broken fault) f p g = tt
reads-then P Q cut_short f p g = tt

word-reads : {A : Type 0} (P : A → Type 0) (meaning : List ℕ → Result A LibKind) (stream : List StreamItem) → AreWords stream → ((bytes : List ℕ) (x : A) → IsWord 4095 bytes → meaning bytes ≡ Ok x → P x) → ReadsTo P (word_by meaning stream)
word-reads P meaning [] w f = tt
word-reads P meaning (text_end line ∷ rest) w f = tt
word-reads P meaning (long_line line ∷ rest) w f = tt
word-reads {A = A} P meaning (word_on line bytes ∷ rest) w f = by_meaning (meaning bytes) refl
  where
    by_meaning : (r : Result A LibKind) → meaning bytes ≡ r → ReadsTo P (with_rest rest (on_line line r))
    by_meaning (Ok x) e = (f bytes x w.0 e, w.1)
    by_meaning (Err kind) e = tt

-- Names of cells

all-drop : (n : ℕ) (bytes : List ℕ) → list_all is_word_byte bytes ≡ true → list_all is_word_byte (drop n bytes) ≡ true
all-drop zero bytes h = h
all-drop (suc n) [] h = refl
all-drop (suc n) (b ∷ bytes) h = all-drop n bytes (tail (is_word_byte b) h)
  where
    tail : (t : Bool) → (t && list_all is_word_byte bytes) ≡ true → list_all is_word_byte bytes ≡ true
    tail true e = e
    tail false e = absurd (false≢true e)

first_of_three : (a b c : Bool) → (a && b && c) ≡ true → a ≡ true
first_of_three true b c e = refl
first_of_three false b c e = absurd (false≢true e)

name-word : (bytes name : List ℕ) → IsWord 4095 bytes → cell_name bytes ≡ Ok name → IsWord 4095 name
name-word bytes name w e = by_tests (is_quote_alone bytes) (is_quoted bytes) refl e
  where
    by_tests : (a b : Bool) → is_quoted bytes ≡ b → ◌≡◌ {A = Result (List ℕ) LibKind} (if a then Err Expected else Ok (if b then take (length bytes - 2) (drop 1 bytes) else bytes)) (Ok name) → IsWord 4095 name
    by_tests true b q e = cc
    by_tests false false q e = let same : bytes ≡ name = cc in subst (IsWord 4095) same w
    by_tests false true q e =
        let same : take (length bytes - 2) (drop 1 bytes) ≡ name = cc in
        let three : 3 ≤ length bytes = leb-true 3 (length bytes) (first_of_three (nat_le 3 (length bytes)) (slice_index bytes 0 == 34) (slice_index bytes (length bytes - 1) == 34) q) in
        let long = length-take (length bytes - 2) (drop 1 bytes) in
        let behind = length-drop 1 bytes in
        let few = w.1 in
        subst (IsWord 4095) same (omega arith, omega arith, all-take (length bytes - 2) (drop 1 bytes) (all-drop 1 bytes w.2))

-- Functions

abbrev IsOpen : FunctionText → Type 0
IsOpen text = IsOpenText text.tokens text.lines text.room

-- a text with its `;`
record IsWhole (text : FunctionText) : Type 0 where
  open_text : FunctionText
  line : ℕ
  is_open : IsOpen open_text
  ended : text ≡ with_end open_text line

no_text-open : IsOpen no_text
no_text-open = record { paired = refl; few = omega arith; no_end = refl; runs = tt }

rest-words : (line : ℕ) (bytes : List ℕ) → length bytes ≤ 4095 → list_all is_word_byte bytes ≡ true → AreWords (left_over line bytes)
rest-words line [] few all = tt
rest-words line (b ∷ bytes) few all = ((omega arith, few, all), tt)

drop-few : (n : ℕ) (bytes : List ℕ) → length bytes ≤ 4095 → length (drop n bytes) ≤ 4095
drop-few n bytes few = omega (arith, length-drop n bytes)

text-reads : (text : FunctionText) (stream : List StreamItem) → IsOpen text → AreWords stream → ReadsTo IsWhole (text_from text stream)
unfolding text_from
text-reads text [] o w = tt
text-reads text (text_end line ∷ rest) o w = tt
text-reads text (long_line line ∷ rest) o w = tt
text-reads text (word_on line bytes ∷ rest) o w = by_tests (nat_lt text.room (1 + length (before_first is_end bytes))) (list_any is_end bytes) refl refl (λ t h. text-reads t rest h w.1)
  where
    room : nat_lt text.room (1 + length (before_first is_end bytes)) ≡ false → 1 + length (before_first is_end bytes) ≤ text.room
    room h = let lt = leb-false (suc text.room) (1 + length (before_first is_end bytes)) h in omega arith

    by_tests : (a b : Bool) → nat_lt text.room (1 + length (before_first is_end bytes)) ≡ a → list_any is_end bytes ≡ b → ((t : FunctionText) → IsOpen t → ReadsTo IsWhole (text_from t rest))
        → ReadsTo IsWhole (if a then broken (Line line LimitText) else (if b then done (with_end (with_word text line (before_first is_end bytes)) line) (left_over line (after_first is_end bytes) ++ rest) else text_from (with_word text line bytes) rest))
    by_tests true b r e others = tt
    by_tests false true r e others = (
      record {
        open_text = with_word text line (before_first is_end bytes);
        line = line;
        is_open = word-kept text.tokens text.lines text.room line (before_first is_end bytes) o (before-part bytes w.0) (before-plain bytes) (room r);
        ended = refl;
      },
      words-both (left_over line (after_first is_end bytes)) rest
          (rest-words line (after_first is_end bytes) (drop-few _ bytes w.0.1) (all-drop _ bytes w.0.2)) w.1,
    )
    by_tests false false r e others =
        let same = before-none bytes e in
        others (with_word text line bytes) (word-kept text.tokens text.lines text.room line bytes o (subst IsPart same (before-part bytes w.0)) e (subst (λ (bs : List ℕ). 1 + length bs ≤ text.room) same (room r)))

-- Entries

record IsKept (entry : Entry) : Type 0 where
  output : List ℕ
  pins : List (List ℕ)
  form : Expr
  is : IsEntry entry.name entry.area entry.tokens output pins form entry.named entry.every

same_length : (tokens0 : List Token) (lines0 : List ℕ) (tokens : List Token) (lines : List ℕ) (line : ℕ) → tokens ≡ tokens0 ++ Punct 59 ∷ [] → lines ≡ lines0 ++ line ∷ [] → length lines0 ≡ length tokens0 → length lines ≡ length tokens
same_length tokens0 lines0 tokens lines line s l e = ap length l ∙ (omega (arith, length-append lines0 (line ∷ []), length-append tokens0 (Punct 59 ∷ []), e) ∙ sym (ap length s))

begun-kept : (line : ℕ) (name : List ℕ) (area : Micro) (text : FunctionText) (e : Entry) → IsWord 4095 name → IsSmall area → IsWhole text → entry_begun line name area text ≡ Ok e → IsKept e
begun-kept line name area text e word small whole is = by_fault (first_fault [] text.lines text.tokens) refl is
  where
    by_fault : (o : Option LibFault) → first_fault [] text.lines text.tokens ≡ o → entry_by line name area text o ≡ Ok e → IsKept e
    by_fault (Some fault) none e = cc
    by_fault None none is =
        let from = whole.open_text in
        let tokens_are : text.tokens ≡ from.tokens ++ Punct 59 ∷ [] = ap (λ (t : FunctionText). t.tokens) whole.ended in
        let lines_are : text.lines ≡ from.lines ++ whole.line ∷ [] = ap (λ (t : FunctionText). t.lines) whole.ended in
        let is_text : IsText text.tokens = record { before = from.tokens; whole = tokens_are; no_end = whole.is_open.no_end } in
        let paired : length text.lines ≡ length text.tokens = same_length from.tokens from.lines text.tokens text.lines whole.line tokens_are lines_are whole.is_open.paired in
        let says = function_says text.tokens text.lines is_text paired none in
        let own : Entry = record { line = line; name = name; area = area; tokens = text.tokens; named = replicate (length (pins_in text.tokens)) None; every = None } in
        let same : own ≡ e = cc in
        subst IsKept same (record {
          output = name_first text.tokens;
          pins = pins_in text.tokens;
          form = expression_of (pins_in text.tokens) (inner_of text.tokens);
          is = record {
            word = word;
            small = small;
            function = function-kept from.tokens text.tokens from.lines text.lines from.room whole.line (name_first text.tokens) (pins_in text.tokens) (expression_of (pins_in text.tokens) (inner_of text.tokens)) whole.is_open tokens_are lines_are says none;
            delays = no-delays (replicate (length (pins_in text.tokens)) None) (pins_in text.tokens) (length (pins_in text.tokens)) refl refl;
          };
        })

result-reads : {A : Type 0} (P : A → Type 0) (rest : List StreamItem) (r : Result A LibFault) → AreWords rest → ((x : A) → r ≡ Ok x → P x) → ReadsTo P (with_rest rest r)
result-reads P rest (Ok x) w f = (f x refl, w)
result-reads P rest (Err fault) w f = tt

gate-reads : (line : ℕ) (stream : List StreamItem) → AreWords stream → ReadsTo IsKept (behind_gate line stream)
gate-reads line stream w =
    reads-then (IsWord 4095) IsKept (word_by cell_name stream) (λ name rest. behind_name line name rest) (word-reads (IsWord 4095) cell_name stream w (λ bytes name b e. name-word bytes name b e))
    (λ name rest word w. reads-then IsSmall IsKept (word_by number_of rest) (λ area more. behind_area line name area more) (word-reads IsSmall number_of rest w (λ bytes m b e. small_number bytes m e))
    (λ area more small w. reads-then IsWhole IsKept (text_from no_text more) (λ whole last. with_rest last (entry_begun line name area whole)) (text-reads no_text more no_text-open w)
    (λ whole last is w. result-reads IsKept last (entry_begun line name area whole) w (λ e b. begun-kept line name area whole e word small is b))))

-- Pins

delays-read : (fields : List Field) (delay : Micro) (stream : List StreamItem) → IsSmall delay → AreWords stream → ReadsTo IsSmall (delay_from fields delay stream)
delays-read [] delay stream small w = (small, w)
delays-read (field ∷ fields) delay stream small w =
    reads-then IsSmall IsSmall (word_by (delay_behind field delay) stream) (λ larger rest. delay_from fields larger rest)
    (word-reads IsSmall (delay_behind field delay) stream w (λ bytes m b e. small-behind field delay m bytes small e)) (λ m rest s w. delays-read fields m rest s w)

delay-kept : (entry : Entry) (target : Target) (delay : Micro) → IsKept entry → IsSmall delay → IsKept (with_delay entry target delay)
delay-kept entry Every delay k small = record {
  output = k.output;
  pins = k.pins;
  form = k.form;
  is = record { word = k.is.word; small = k.is.small; function = k.is.function; delays = record { one_each = k.is.delays.one_each; small = k.is.delays.small; every_small = small } };
}
delay-kept entry (One place) delay k small = record {
  output = k.output;
  pins = k.pins;
  form = k.form;
  is = record {
    word = k.is.word;
    small = k.is.small;
    function = k.is.function;
    delays = record { one_each = length-set entry.named place (Some delay) ∙ k.is.delays.one_each; small = All-set IsSmallDelay entry.named place (Some delay) small k.is.delays.small; every_small = k.is.delays.every_small };
  };
}

pin-reads : (entry : Entry) (stream : List StreamItem) → IsKept entry → AreWords stream → ReadsTo IsKept (behind_pin entry stream)
pin-reads entry stream k w =
    reads-then (λ (t : Target). Unit {0}) IsKept (word_by (target_of (pins_of entry)) stream) (λ target rest. behind_target entry target pin_fields no_delay rest) (word-reads (λ (t : Target). Unit {0}) (target_of (pins_of entry)) stream w (λ bytes t b e. tt))
    (λ target rest any w. reads-then IsSmall IsKept (delay_from pin_fields no_delay rest) (λ delay more. done (with_delay entry target delay) more) (delays-read pin_fields no_delay rest (omega arith) w)
    (λ delay more small w. (delay-kept entry target delay k small, w)))

-- The end of an entry

first-form : (n : ℕ) (forms : List Expr) → 0 < length forms → All (IsForm n) forms → IsForm n (first_expr forms)
first-form n [] some all = absurd (omega arith)
first-form n (e ∷ forms) some all = all 0 e (omega arith)

same-at : (xs : List CellParts) (i : ℕ) (c d : CellParts) → i < length xs → get_or xs i c ≡ get_or xs i d
same-at [] i c d lt = absurd (omega arith)
same-at (x ∷ xs) zero c d lt = refl
same-at (x ∷ xs) (suc i) c d lt = same-at xs i c d (omega arith)

module _ (cells : List CellParts) (entry : Entry) (lib : IsLibrary cells) (room : HasRoom cells) (k : IsKept entry) where
  are-cells : AreCells cells (sum_by form_count cells)
  are-cells = record { library = lib; count = refl }

  new-kept : place_of cells entry ≡ None → IsLibrary (cells ++ cell_of entry ∷ [])
  new-kept none =
      (cells-more cells (sum_by form_count cells) (cell_of entry) are-cells room (listed-cell entry k.output k.pins k.form k.is) refl
      (no-place (λ (cell : CellParts). bytes_eq entry.name cell.name) cells none)).library

  module _ (place : ℕ) (below : place < length cells) where
    abbrev own : CellParts
    own = get_or cells place (cell_of entry)

    -- the cell of the entry's name is one of the library
    own-listed : IsListed own
    own-listed = lib.each place (cell_of entry) below

    own-again : own ≡ get_or cells place own
    own-again = same-at cells place (cell_of entry) (get_or cells place (cell_of entry)) below

    with-form-kept : is_alike own (output_of entry) entry.area (zip (pins_of entry) (delays_of entry)) ≡ true → have_same_table (length own.pins) (first_expr own.forms) (form_over own.pins entry) ≡ true → IsCell (with_form own (form_over own.pins entry))
    with-form-kept alike table =
        let cell = own-listed in
        let f = k.is.function in
        let goes : go_on true 0 (inner_of entry.tokens) ≡ true = subst (λ (s : List Token). go_on true 0 s ≡ true) (sym (inner-is entry.tokens k.output k.pins k.form f)) f.goes_on in
        let j : Mergeable own entry (form_over own.pins entry) =
        mergeable own entry entry.tokens k.output k.pins k.form entry.named entry.every (delays_of entry) (inner_of entry.tokens) entry.tokens own.pins (form_over own.pins entry)
        f k.is.delays refl refl refl cell.kept cell.pins_differ (sym alike) refl refl refl (spells_read own.pins (inner_of entry.tokens) goes) in
        let first = first-form (length own.pins) own.forms cell.kept.some_form cell.kept.forms in
        cell-with_form own (form_over own.pins entry) cell.kept j.is_form
        (truth-of_table (length own.pins) (first_expr own.forms) (form_over own.pins entry) (λ n m. (first.over n).0 m) (λ n m. (j.is_form.over n).0 m) table)

    merged-library : agrees own entry ≡ true → IsLibrary (slice_set cells place (with_form own (form_over own.pins entry)))
    unfolding agrees
    merged-library agree =
        let alike = (and_parts (is_alike own (output_of entry) entry.area (zip (pins_of entry) (delays_of entry))) (have_same_table (length own.pins) (first_expr own.forms) (form_over own.pins entry)) agree).0 in
        let table = (and_parts (is_alike own (output_of entry) entry.area (zip (pins_of entry) (delays_of entry))) (have_same_table (length own.pins) (first_expr own.forms) (form_over own.pins entry)) agree).1 in
        (cells-merged cells (sum_by form_count cells) place own (form_over own.pins entry) are-cells room below own-again (with-form-kept alike table)).library

    agreed-kept : (b : Bool) (more : List CellParts) → agrees own entry ≡ b → ◌≡◌ {A = Result (List CellParts) LibFault} (if b then Ok (slice_set cells place (with_form own (form_over own.pins entry))) else Err (Line entry.line CellDiffers)) (Ok more) → IsLibrary more
    agreed-kept true more agree is = let same : slice_set cells place (with_form own (form_over own.pins entry)) ≡ more = cc in subst IsLibrary same (merged-library agree)
    agreed-kept false more agree is = cc

  placed-kept : (o : Option ℕ) (more : List CellParts) → place_of cells entry ≡ o → merged_at cells entry o ≡ Ok more → IsLibrary more
  placed-kept None more at is = let same : cells ++ cell_of entry ∷ [] ≡ more = cc in subst IsLibrary same (new-kept at)
  placed-kept (Some place) more at is =
      agreed-kept place (position-Some (λ (cell : CellParts). bytes_eq entry.name cell.name) cells place (cell_of entry) at).0 (agrees (get_or cells place (cell_of entry)) entry) more refl is

  lacking-kept : (b : Bool) (more : List CellParts) → lacks_delay entry ≡ b → merged cells entry ≡ Ok more → IsLibrary more
  lacking-kept true more h is = let no : ◌≡◌ {A = Result (List CellParts) LibFault} (Err (Line entry.line PinMissing)) (Ok more) = sym (missing cells entry h) ∙ is in cc
  lacking-kept false more h is = placed-kept (place_of cells entry) more refl (sym (none-missing cells entry h) ∙ is)

-- an entry whose pins may follow
abbrev IsOpenEntry : List CellParts → Option Entry → Type 0
IsOpenEntry cells None = Unit {0}
IsOpenEntry cells (Some entry) = HasRoom cells × IsKept entry

ended-kept : (cells more : List CellParts) (o : Option Entry) → IsLibrary cells → IsOpenEntry cells o → merged_with cells o ≡ Ok more → IsLibrary more
ended-kept cells more None lib k is = let same : cells ≡ more = cc in subst IsLibrary same lib
ended-kept cells more (Some entry) lib k is = lacking-kept cells entry lib k.0 k.1 (lacks_delay entry) more refl is

-- Pieces

abbrev IsKeptSoFar : CellsSoFar → Type 0
IsKeptSoFar so_far = IsLibrary so_far.cells × IsOpenEntry so_far.cells so_far.entry

latch-words : (stream : List StreamItem) → AreWords stream → AreWords (behind_latch stream)
unfolding behind_latch
latch-words [] w = tt
latch-words (text_end line ∷ rest) w = w
latch-words (long_line line ∷ rest) w = w
latch-words (word_on line bytes ∷ rest) w = by_test (begins_entry bytes) (latch-words rest w.1)
  where
    by_test : (b : Bool) → AreWords (behind_latch rest) → AreWords (if b then word_on line bytes ∷ rest else behind_latch rest)
    by_test true others = w
    by_test false others = others

opened-reads : (so_far : CellsSoFar) (r : Reading Entry) → IsLibrary so_far.cells → HasRoom so_far.cells → ReadsTo IsKept r → ReadsTo IsKeptSoFar (opened_by so_far r)
opened-reads so_far r lib room reads = reads-then IsKept IsKeptSoFar r (λ read rest. done (with_open so_far (Some read)) rest) reads (λ read rest k w. ((lib, (room, k)), w))

entry-reads : (line : ℕ) (bytes : List ℕ) (rest : List StreamItem) (so_far : CellsSoFar) → IsLibrary so_far.cells → so_far.entry ≡ None → AreWords rest → ReadsTo IsKeptSoFar (entry_on line bytes rest so_far)
entry-reads line bytes rest so_far lib none w = by_tests (is_word (codes "LATCH") bytes) (is_word (codes "GATE") bytes) (nat_le 4096 (sum_by form_count so_far.cells)) refl
  where
    by_tests : (a b c : Bool) → nat_le 4096 (sum_by form_count so_far.cells) ≡ c → ReadsTo IsKeptSoFar (if a then done so_far (behind_latch rest) else (if b then (if c then broken (Line line LimitCells) else gate_on so_far line rest) else broken (Line line Expected)))
    by_tests true b c e = ((lib, subst (λ (o : Option Entry). IsOpenEntry so_far.cells o) (sym none) tt), latch-words rest w)
    by_tests false true true e = tt
    by_tests false true false e = opened-reads so_far (behind_gate line rest) lib (leb-false 4096 (sum_by form_count so_far.cells) e) (gate-reads line rest w)
    by_tests false false c e = tt

behind-reads : (so_far : CellsSoFar) (line : ℕ) (bytes : List ℕ) (rest : List StreamItem) → IsKeptSoFar so_far → AreWords rest → ReadsTo IsKeptSoFar (entry_behind so_far line bytes rest)
behind-reads so_far line bytes rest k w = by_end (merged_with so_far.cells so_far.entry) refl
  where
    by_end : (r : Result (List CellParts) LibFault) → merged_with so_far.cells so_far.entry ≡ r → ReadsTo IsKeptSoFar (go_on_with (with_cells r) (entry_on line bytes rest))
    by_end (Ok cells) e = entry-reads line bytes rest (record { cells = cells; entry = None }) (ended-kept so_far.cells cells so_far.entry k.0 k.1 e) refl w
    by_end (Err fault) e = tt

words-read : (so_far : CellsSoFar) (o : Option Entry) (line : ℕ) (bytes : List ℕ) (rest : List StreamItem) → IsKeptSoFar so_far → IsOpenEntry so_far.cells o → AreWords rest → ReadsTo IsKeptSoFar (words_behind so_far o line bytes rest)
words-read so_far None line bytes rest k open_one w = behind-reads so_far line bytes rest k w
words-read so_far (Some entry) line bytes rest k open_one w = by_test (is_word (codes "PIN") bytes)
  where
    by_test : (b : Bool) → ReadsTo IsKeptSoFar (if b then pin_on so_far entry rest else entry_behind so_far line bytes rest)
    by_test true = opened-reads so_far (behind_pin entry rest) k.0 open_one.0 (pin-reads entry rest open_one.1 w)
    by_test false = behind-reads so_far line bytes rest k w

-- what a piece hands on
abbrev IsKeptPiece : Piece → Type 0
IsKeptPiece (next so_far rest) = IsKeptSoFar so_far × AreWords rest
IsKeptPiece (stopped fault) = Unit {0}
IsKeptPiece unfinished = Unit {0}
IsKeptPiece (finished cells) = IsLibrary cells

piece-of : (r : Reading CellsSoFar) → ReadsTo IsKeptSoFar r → IsKeptPiece (piece_by r)
piece-of (done so_far rest) k = k
piece-of (broken fault) k = tt
piece-of cut_short k = tt

piece-kept : (so_far : CellsSoFar) (stream : List StreamItem) → IsKeptSoFar so_far → AreWords stream → IsKeptPiece (piece so_far stream)
unfolding piece
piece-kept so_far [] k w = tt
piece-kept so_far (text_end line ∷ rest) k w = by_end (merged_with so_far.cells so_far.entry) refl
  where
    by_end : (r : Result (List CellParts) LibFault) → merged_with so_far.cells so_far.entry ≡ r → IsKeptPiece (last_piece r)
    by_end (Ok cells) e = ended-kept so_far.cells cells so_far.entry k.0 k.1 e
    by_end (Err fault) e = tt
piece-kept so_far (long_line line ∷ rest) k w = tt
piece-kept so_far (word_on line bytes ∷ rest) k w = piece-of (words_behind so_far so_far.entry line bytes rest) (words-read so_far so_far.entry line bytes rest k k.1 w.1)

no-library : IsLibrary []
no-library = no-cells.library

after-kept : (p : Piece) (others : CellsSoFar → List StreamItem → Outcome) → IsKeptPiece p → ((so_far : CellsSoFar) (rest : List StreamItem) → IsKeptSoFar so_far → AreWords rest → IsLibrary (others so_far rest).cells) → IsLibrary (after p others).cells
after-kept (next so_far rest) others k f = f so_far rest k.0 k.1
after-kept (stopped fault) others k f = no-library
after-kept unfinished others k f = no-library
after-kept (finished cells) others k f = k

pieces-kept : (turns : ℕ) (so_far : CellsSoFar) (stream : List StreamItem) → IsKeptSoFar so_far → AreWords stream → IsLibrary (pieces turns so_far stream).cells
unfolding pieces
pieces-kept zero so_far stream k w = no-library
pieces-kept (suc turns) so_far stream k w = after-kept (piece so_far stream) (pieces turns) (piece-kept so_far stream k w) (λ b rest kb wr. pieces-kept turns b rest kb wr)

-- Lines

abbrev AreWordLines : List LogicalLine → Type 0
AreWordLines lines = AllByRecursion (λ (line : LogicalLine). All (IsWord 4095) line.words) lines

each-word : (number : ℕ) (words : List (List ℕ)) → AllByRecursion (IsWord 4095) words → AreWords (map (word_on number) words)
each-word number [] a = tt
each-word number (word ∷ words) a = (a.0, each-word number words a.1)

line-words : (line : LogicalLine) → All (IsWord 4095) line.words → AreWords (items_on line)
line-words line a = by_test line.long
  where
    by_test : (b : Bool) → AreWords (if b then long_line line.number ∷ [] else map (word_on line.number) line.words)
    by_test true = tt
    by_test false = each-word line.number line.words (recursion_from_All (IsWord 4095) line.words a)

stream-words : (lines : List LogicalLine) → AreWordLines lines → AreWords (stream_of lines)
unfolding stream_of
stream-words [] a = tt
stream-words (line ∷ lines) a = words-both (items_on line) (stream_of lines) (line-words line a.0) (stream-words lines a.1)

by-fault : (o : Option LibFault) (xs cells : List CellParts) → IsLibrary xs → cells_or_fault o xs ≡ Ok cells → IsLibrary cells
by-fault None xs cells lib is = let same : xs ≡ cells = cc in subst IsLibrary same lib
by-fault (Some fault) xs cells lib is = cc

outcome-kept : (stream : List StreamItem) → AreWords stream → IsLibrary (outcome_of stream).cells
unfolding outcome_of outcome_from
outcome-kept stream w = pieces-kept (suc (length stream)) no_cells stream (no-library, tt) w

pub library-kept : (lines : List LogicalLine) (cells : List CellParts) → All (λ (line : LogicalLine). All (IsWord 4095) line.words) lines → library_of lines ≡ Ok cells → IsLibrary cells
unfolding library_of
library-kept lines cells all is =
    let stream : List StreamItem = stream_of lines ++ text_end (last_number lines) ∷ [] in
    by-fault (outcome_of stream).fault (outcome_of stream).cells cells
    (outcome-kept stream (words-both (stream_of lines) (text_end (last_number lines) ∷ []) (stream-words lines (recursion_from_All (λ (line : LogicalLine). All (IsWord 4095) line.words) lines all)) tt)) is
