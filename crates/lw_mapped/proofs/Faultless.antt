-- Lines that break no rule, with what they say.
use Rattle.std.proofs.Common.{ℕ, ◌≡◌, ◌+◌, Bool, true, false, not, cond, List, [], ◌∷◌, ◌++◌, map, Some, None, Ok, refl, ap, ap₂, sym, ◌∙◌, subst, append_assoc, append-nil}
use Rattle.std.specs.Prelude.{codes}
use Rattle.std.specs.List.{flat_map, AllByRecursion as Each}
use Rattle.lw_words.specs.Lines.{LogicalLine}
use Rattle.lw_genlib.specs.Cells.{CellParts}
use Rattle.lw_mapped.specs.declared.command.Command.{Command}
use Rattle.lw_mapped.specs.declared.saying.Saying.{Saying}
use Rattle.lw_mapped.specs.Commands.{command_of, point_command}
use Rattle.lw_mapped.specs.Sayings.{words_say}
use Rattle.lw_mapped.specs.LineFaults.{ends, goes_on, lines_read, is_names_command, is_row, wire_without_row, what_is_said, lines_say, told_fault, saying_fault, fault_behind, line_fault, first_fault, fault_else, text_fault}
use Rattle.lw_blif_text.specs.FirstFaults.{fault_or, first_fault_by}
use Rattle.lw_mapped.proofs.ReadingLemmas.{say-last, wire-last, row-says, row-wire, none-wire, none-say}
use Rattle.lw_words.specs.Words.{first_word, front}
use Rattle.lw_frame.specs.Ending.{lines_until}
use Rattle.lw_frame.proofs.WrittenLines.{numbered}

-- A line, what it says, and whether it is a wire, behind which its row comes.
pub record Item : Type 0 where
  pub words : List (List ℕ)
  pub what : Saying
  pub wired : Bool

abbrev pub row : List (List ℕ)
row = codes "1" ∷ codes "1" ∷ []

abbrev pub lines_of : Item → List (List (List ℕ))
lines_of item = item.words ∷ cond item.wired (row ∷ []) []

abbrev pub all_lines : List Item → List (List (List ℕ))
all_lines items = flat_map lines_of items

abbrev pub told : Item → Saying
told item = item.what

abbrev pub command_in : List (List ℕ) → Command
command_in words = command_of (first_word words)

-- the line says this
pub record IsItem (cells : List CellParts) (item : Item) : Type 0 where
  pub says : words_say cells item.words ≡ Ok item.what
  pub names : is_names_command (command_in item.words) ≡ item.wired

abbrev pub GoesOn : List (List ℕ) → Type 0
GoesOn words = ends false (command_in words) ≡ false

-- nothing is told a second time
abbrev pub AreFresh : List Saying → List Item → Type 0
AreFresh before [] = Unit {0}
AreFresh before (item ∷ items) = (told_fault before item.what ≡ None) × AreFresh (before ++ item.what ∷ []) items

-- One line.

abbrev at_line : ℕ → List (List ℕ) → LogicalLine
at_line number words = record { number = number; long = false; words = words }

record IsGood (cells : List CellParts) (before lines : List LogicalLine) : Type 0 where
  none : first_fault cells before lines ≡ None
  row_given : wire_without_row (before ++ lines) ≡ None

good-none : (cells : List CellParts) (before : List LogicalLine) → wire_without_row before ≡ None → IsGood cells before []
unfolding first_fault_by
good-none cells before wire = record { none = refl; row_given = ap wire_without_row (append-nil before) ∙ wire }

good-more : (cells : List CellParts) (before lines : List LogicalLine) (line : LogicalLine) → line_fault cells before line ≡ None → IsGood cells (before ++ line ∷ []) lines → IsGood cells before (line ∷ lines)
unfolding first_fault_by
good-more cells before lines line fine rest = record {
  none = ap (λ f. fault_or line.number f (first_fault cells (before ++ line ∷ []) lines)) fine ∙ rest.none;
  row_given = ap wire_without_row (sym (append_assoc before (line ∷ []) lines)) ∙ rest.row_given;
}

fine-says : (cells : List CellParts) (before : List LogicalLine) (number : ℕ) (words : List (List ℕ)) (what : Saying) → wire_without_row before ≡ None → words_say cells words ≡ Ok what → told_fault (lines_say cells before) what ≡ None → line_fault cells before (at_line number words) ≡ None
unfolding line_fault
fine-says cells before number words what wire says fresh =
    ap (λ w. fault_behind w (lines_say cells before) words (words_say cells words)) wire
    ∙ (ap (saying_fault (lines_say cells before)) says ∙ fresh)

fine-row : (cells : List CellParts) (before : List LogicalLine) (number first : ℕ) → wire_without_row before ≡ Some first → line_fault cells before (at_line number row) ≡ None
unfolding line_fault
fine-row cells before number first wire = ap (λ w. fault_behind w (lines_say cells before) row (words_say cells row)) wire

says-more : (cells : List CellParts) (before : List LogicalLine) (number : ℕ) (words : List (List ℕ)) (what : Saying) → words_say cells words ≡ Ok what → lines_say cells (before ++ at_line number words ∷ []) ≡ lines_say cells before ++ what ∷ []
says-more cells before number words what says = say-last cells before (at_line number words) ∙ ap (λ l. lines_say cells before ++ l) (ap what_is_said says)

row-is : is_row row ≡ true
row-is = refl

-- A line, with its row where it is a wire.
step : (cells : List CellParts) (before : List LogicalLine) (number : ℕ) (words : List (List ℕ)) (what : Saying) (wired : Bool) (rest : List (List (List ℕ))) → words_say cells words ≡ Ok what → is_names_command (command_in words) ≡ wired → told_fault (lines_say cells before) what ≡ None → wire_without_row before ≡ None →
    ((behind : List LogicalLine) (next : ℕ) → lines_say cells behind ≡ lines_say cells before ++ what ∷ [] → wire_without_row behind ≡ None → IsGood cells behind (numbered next rest)) → IsGood cells before (numbered number (words ∷ cond wired (row ∷ []) [] ++ rest))
step cells before number words what false rest says names fresh wire others =
    let line = at_line number words in
    good-more cells before (numbered (number + 1) rest) line (fine-says cells before number words what wire says fresh)
    (others (before ++ line ∷ []) (number + 1) (says-more cells before number words what says) (wire-last before line ∙ ap (λ b. cond b (Some number) None) names))
step cells before number words what true rest says names fresh wire others =
    let line = at_line number words in
    let behind = before ++ line ∷ [] in
    let second = at_line (number + 1) row in
    let open_wire : wire_without_row behind ≡ Some number = wire-last before line ∙ ap (λ b. cond b (Some number) None) names in
    good-more cells before (numbered (number + 1) (row ∷ rest)) line (fine-says cells before number words what wire says fresh)
    (good-more cells behind (numbered (number + 1 + 1) rest) second (fine-row cells behind (number + 1) number open_wire)
    (others (behind ++ second ∷ []) (number + 1 + 1) (row-says cells behind second row-is ∙ says-more cells before number words what says) (sym (row-wire behind second row-is))))

good-items : (cells : List CellParts) (before : List LogicalLine) (number : ℕ) (items : List Item) → Each (IsItem cells) items → AreFresh (lines_say cells before) items → wire_without_row before ≡ None → IsGood cells before (numbered number (all_lines items))
good-items cells before number [] each fresh wire = good-none cells before wire
good-items cells before number (item ∷ items) each fresh wire =
    step cells before number item.words item.what item.wired (all_lines items) each.0.says each.0.names fresh.0 wire
    (λ behind next says open_wire. good-items cells behind next items each.1 (subst (λ s. AreFresh s items) (sym says) fresh.1) open_wire)

-- What is said.

row-silent : (cells : List CellParts) → what_is_said (words_say cells row) ≡ []
unfolding words_say command_of
row-silent cells = refl

says-step : (cells : List CellParts) (number : ℕ) (words : List (List ℕ)) (what : Saying) (wired : Bool) (rest : List (List (List ℕ))) (said : List Saying) → words_say cells words ≡ Ok what → ((next : ℕ) → lines_say cells (numbered next rest) ≡ said) → lines_say cells (numbered number (words ∷ cond wired (row ∷ []) [] ++ rest)) ≡ what ∷ said
unfolding lines_say
says-step cells number words what false rest said says others = ap₂ (λ a b. a ++ b) (ap what_is_said says) (others (number + 1))
says-step cells number words what true rest said says others = ap₂ (λ a b. a ++ b) (ap what_is_said says) (ap (λ a. a ++ lines_say cells (numbered (number + 1 + 1) rest)) (row-silent cells) ∙ others (number + 1 + 1))

says-items : (cells : List CellParts) (number : ℕ) (items : List Item) → Each (IsItem cells) items → lines_say cells (numbered number (all_lines items)) ≡ map told items
unfolding lines_say
says-items cells number [] each = refl
says-items cells number (item ∷ items) each =
    says-step cells number item.words item.what item.wired (all_lines items) (map told items) each.0.says (λ next. says-items cells next items each.1)

-- The end.

abbrev pub last_line : List (List ℕ)
last_line = codes ".end" ∷ []

end-stops : ends false (command_in last_line) ≡ true
unfolding command_of point_command
end-stops = refl

front-before : (number : ℕ) (lines : List (List (List ℕ))) → Each GoesOn lines → front goes_on (numbered number (lines ++ last_line ∷ [])) ≡ numbered number lines
front-before number [] each = ap (λ b. cond (not b) (at_line number last_line ∷ []) []) end-stops
front-before number (words ∷ lines) each =
    ap (λ b. cond (not b) (at_line number words ∷ front goes_on (numbered (number + 1) (lines ++ last_line ∷ []))) []) each.0
    ∙ ap (λ l. at_line number words ∷ l) (front-before (number + 1) lines each.1)

read-lines : (number : ℕ) (words : List (List ℕ)) (lines : List (List (List ℕ))) → ends true (command_in words) ≡ false → Each GoesOn lines → lines_read (numbered number ((words ∷ lines) ++ last_line ∷ [])) ≡ numbered number (words ∷ lines)
unfolding lines_until
read-lines number words lines first each =
    ap (λ b. cond b [] (at_line number words ∷ front goes_on (numbered (number + 1) (lines ++ last_line ∷ [])))) first
    ∙ ap (λ l. at_line number words ∷ l) (front-before (number + 1) lines each)

-- Lines of items behind a first one that is no wire, and then the end: no line breaks a rule, and each says what its item says.
pub record AreTold (cells : List CellParts) (lines : List LogicalLine) (said : List Saying) : Type 0 where
  pub faultless : text_fault cells lines ≡ None
  pub says : lines_say cells (lines_read lines) ≡ said

pub items-told : (cells : List CellParts) (words : List (List ℕ)) (what : Saying) (items : List Item) →
    (let first : Item = record { words = words; what = what; wired = false } in
    ends true (command_in words) ≡ false → Each (IsItem cells) (first ∷ items) → Each GoesOn (all_lines items) → AreFresh [] (first ∷ items) →
    AreTold cells (numbered 1 (all_lines (first ∷ items) ++ last_line ∷ [])) (map told (first ∷ items)))
unfolding text_fault
items-told cells words what items goes each on fresh =
    let first : Item = record { words = words; what = what; wired = false } in
    let lines = words ∷ all_lines items in
    let read = read-lines 1 words (all_lines items) goes on in
    let good = good-items cells [] 1 (first ∷ items) each (subst (λ s. AreFresh s (first ∷ items)) (sym (none-say cells)) fresh) none-wire in
    record {
      faultless = ap (λ ls. fault_else (first_fault cells [] ls) (wire_without_row ls)) read ∙ ap₂ fault_else good.none good.row_given;
      says = ap (lines_say cells) read ∙ says-items cells 1 (first ∷ items) each;
    }
