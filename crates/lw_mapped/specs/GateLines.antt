-- The gate of a line: its cell, and the nets of the cell's pins and of its output.
use Rattle.std.specs.Prelude.{ℕ, ◌==◌, Bool, not, ◌&&◌, ◌||◌, nat_lt, List, [], ◌∷◌, ◌++◌, length, map, Option, Some}
use Rattle.std.specs.Prelude.{None, if◌then◌else◌}
use Rattle.std.specs.List.{before_first, after_first, list_all, list_any}
use Rattle.std.specs.Option.{option_or}
use Rattle.std.specs.Str.{bytes_eq}
use Rattle.lw_genlib.specs.Cells.{CellParts}
use Rattle.lw_named_netlist.specs.declared.draft.DraftGate.{DraftGate}
use Rattle.lw_mapped.specs.declared.fault.MappedKind.{MappedKind}
use Rattle.lw_mapped.specs.declared.fault.MappedKind.TheVariants as kind
use Rattle.lw_words.specs.Words.{is_among, is_name}
pub use Rattle.lw_mapped.specs.Texts.{equals_sign}

-- Words `FORMAL=ACTUAL`.

abbrev pub is_equals : ℕ → Bool
is_equals b = b == equals_sign

-- the pin or the output, which ends at the first `=`
abbrev pub formal_of : List ℕ → List ℕ
formal_of word = before_first is_equals word

-- the net, which stands behind that sign
abbrev pub actual_of : List ℕ → List ℕ
actual_of word = after_first is_equals word

-- both parts are there
abbrev pub is_tie : List ℕ → Bool
is_tie word = nat_lt 0 (length (formal_of word)) && nat_lt 0 (length (actual_of word))

-- the word is for this pin or output
abbrev pub is_for : List ℕ → List ℕ → Bool
is_for formal word = bytes_eq (formal_of word) formal

-- the words give this pin or output a net
abbrev pub gives : List (List ℕ) → List ℕ → Bool
gives ties formal = list_any (is_for formal) ties

-- The rules.

-- a pin or the output of the cell
abbrev pub is_formal : CellParts → List ℕ → Bool
is_formal cell formal = is_among cell.pins formal || bytes_eq formal cell.output

-- The first rule that a word breaks behind these of its line.
unfoldable pub tie_fault : CellParts → List (List ℕ) → List ℕ → Option MappedKind
tie_fault cell before word =
    if not (is_tie word) then Some kind.Shape
    else (if not (is_formal cell (formal_of word)) then Some kind.PinUnknown
    else (if gives before (formal_of word) then Some kind.PinTwice
    else (if not (is_name (actual_of word)) then Some kind.BadName else None)))

-- the first rule that one of the words breaks, behind these
unfoldable pub first_tie_fault : CellParts → List (List ℕ) → List (List ℕ) → Option MappedKind
first_tie_fault cell before [] = None
first_tie_fault cell before (word ∷ words) =
    option_or (tie_fault cell before word) (first_tie_fault cell (before ++ word ∷ []) words)

-- each pin and the output has a net
abbrev pub gives_all : CellParts → List (List ℕ) → Bool
gives_all cell ties = list_all (gives ties) cell.pins && gives ties cell.output

abbrev pub or_missing : Bool → Option MappedKind → Option MappedKind
or_missing whole (Some kind) = Some kind
or_missing whole None = if whole then None else Some kind.PinMissing

-- The first rule that the words of a gate of this cell break.
abbrev pub ties_fault : CellParts → List (List ℕ) → Option MappedKind
ties_fault cell ties = or_missing (gives_all cell ties) (first_tie_fault cell [] ties)

-- The gate.

abbrev pub first_or_none : List (List ℕ) → List ℕ
first_or_none [] = []
first_or_none (word ∷ words) = word

-- the net of a pin or of the output
abbrev pub net_for : List (List ℕ) → List ℕ → List ℕ
net_for [] formal = []
net_for (word ∷ words) formal = if is_for formal word then actual_of word else net_for words formal

abbrev pub gate_of : ℕ → CellParts → List (List ℕ) → DraftGate
gate_of number cell ties =
    record { cell = record { 0 = number }; pins = map (net_for ties) cell.pins; out = net_for ties cell.output }
