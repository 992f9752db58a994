-- How the tokens of a text are read, and the first that breaks a rule.
use Rattle.std.specs.Prelude.{ℕ, Bool, true, false, not, ◌&&◌, ◌==◌, is_none, slice_get, List, [], ◌∷◌, ◌++◌, Option}
use Rattle.std.specs.Prelude.{Some, None, Result, Ok, Err, if◌then◌else◌}
use Rattle.std.specs.List.{list_all, list_any}
use Rattle.std.specs.Option.{option_or}
use Rattle.lw_genlib.specs.Cells.{CellParts, names_of}
use Rattle.lw_named_netlist.specs.Closing.{is_among, twice_after}
use Rattle.lw_mapped.specs.GateLines.{is_formal}
use Rattle.lw_verilog.specs.declared.fault.VerilogKind.{VerilogKind}
use Rattle.lw_verilog.specs.declared.fault.VerilogKind.TheVariants as kind
use Rattle.lw_verilog.specs.declared.kind.Kind.{Kind}
use Rattle.lw_verilog.specs.declared.place.Move.{Move}
use Rattle.lw_verilog.specs.declared.place.Place.{Place}
use Rattle.lw_verilog.specs.declared.place.Place.TheVariants as place
use Rattle.lw_verilog.specs.declared.place.Task.{Task}
use Rattle.lw_verilog.specs.declared.place.Task.TheVariants as task
use Rattle.lw_verilog.specs.Grammar.{move_at}
use Rattle.lw_verilog.specs.Statements.{Statement, Tie, ties_in, number_of, is_for, ports_of}
use Rattle.lw_verilog.specs.Tokens.{Token, is_gap, is_strange}
use Rattle.lw_words.specs.Words.{is_name}

-- Where a reading stands: the place in the grammar, the names of the statement that is open, the ports that are
-- declared so far, and the statements that are ended.
pub record Reading : Type 0 where
  pub place : Place
  pub names : List (List ℕ)
  pub declared : List (List ℕ)
  pub said : List Statement

abbrev pub nothing_read : Reading
nothing_read = record { place = place.Begin; names = []; declared = []; said = [] }

abbrev pub is_done : Place → Bool
is_done place.Done = true
is_done other = false

-- One more token.

-- a name belongs to its statement, and an end leaves no names
abbrev pub names_after : Task → List ℕ → List (List ℕ) → List (List ℕ)
names_after task.Skip name names = names
names_after task.Word name names = names ++ name ∷ []
names_after task.Declare name names = names ++ name ∷ []
names_after task.Cell name names = names ++ name ∷ []
names_after task.Pin name names = names ++ name ∷ []
names_after other name names = []

abbrev pub declared_after : Task → List ℕ → List (List ℕ) → List (List ℕ)
declared_after task.Declare name declared = declared ++ name ∷ []
declared_after other name declared = declared

-- whether a token is a name of its statement
abbrev pub is_word : Task → Bool
is_word task.Word = true
is_word task.Declare = true
is_word task.Cell = true
is_word task.Pin = true
is_word other = false

-- whether a token ends a statement
abbrev pub is_last : Task → Bool
is_last task.Skip = false
is_last task.Word = false
is_last task.Declare = false
is_last task.Cell = false
is_last task.Pin = false
is_last other = true

abbrev pub said_after : Task → List (List ℕ) → List Statement → List Statement
said_after what names said = if is_last what then said ++ record { task = what; names = names } ∷ [] else said

abbrev pub after : Move → List ℕ → Reading → Reading
after m name r = record {
  place = m.next;
  names = names_after m.task name r.names;
  declared = declared_after m.task name r.declared;
  said = said_after m.task r.names r.said;
}

-- The rules.

abbrev pub has_hash : List ℕ → Bool
has_hash name = list_any (λ b. b == 35) name

-- a name of at most 2,000 bytes without `#`, the last byte of which is no `\`
abbrev pub name_fault : List ℕ → Option VerilogKind
name_fault name = if is_name name && not (has_hash name) then None else Some kind.BadName

-- an input or output is declared once
abbrev pub declared_fault : List (List ℕ) → List ℕ → Option VerilogKind
declared_fault declared name = if is_among declared name then Some kind.Port else None

abbrev pub cell_fault : List CellParts → List ℕ → Option VerilogKind
cell_fault cells name = if is_among (names_of cells) name then None else Some kind.NoCell

-- a pin or the output of the cell, which the instance has not given before
abbrev pub formal_fault : Option CellParts → List Tie → List ℕ → Option VerilogKind
formal_fault None ties name = Some kind.PinUnknown
formal_fault (Some cell) ties name =
    if not (is_formal cell name) then Some kind.PinUnknown
    else (if list_any (is_for name) ties then Some kind.PinTwice else None)

-- each pin and the output
abbrev pub gives_all : List Tie → CellParts → Bool
gives_all ties cell = list_all (λ pin. list_any (is_for pin) ties) cell.pins && list_any (is_for cell.output) ties

abbrev pub missing_fault : Option CellParts → List Tie → Option VerilogKind
missing_fault None ties = Some kind.PinMissing
missing_fault (Some cell) ties = if gives_all ties cell then None else Some kind.PinMissing

abbrev pub cell_numbered : List CellParts → Option ℕ → Option CellParts
cell_numbered cells None = None
cell_numbered cells (Some number) = slice_get cells number

-- the cell of an instance
abbrev pub cell_in : List CellParts → List (List ℕ) → Option CellParts
cell_in cells names = cell_numbered cells (number_of cells names)

-- each port is declared, none is listed twice, and each name that is declared is a port
abbrev pub are_ports : List (List ℕ) → List (List ℕ) → Bool
are_ports ports declared =
    is_none (twice_after [] ports) && list_all (is_among declared) ports && list_all (is_among ports) declared

abbrev pub ports_fault : List (List ℕ) → List (List ℕ) → Option VerilogKind
ports_fault ports declared = if are_ports ports declared then None else Some kind.Port

-- The rule that a token breaks which may stand there: by the names of its statement, by the ports, and by what is
-- declared.
unfoldable pub rule_fault : List CellParts → List (List ℕ) → List (List ℕ) → List (List ℕ) → Task → List ℕ
    → Option VerilogKind
rule_fault cells names ports declared task.Word name = name_fault name
rule_fault cells names ports declared task.Declare name = option_or (name_fault name) (declared_fault declared name)
rule_fault cells names ports declared task.Cell name = cell_fault cells name
rule_fault cells names ports declared task.Pin name = formal_fault (cell_in cells names) (ties_in names) name
rule_fault cells names ports declared task.Instance name = missing_fault (cell_in cells names) (ties_in names)
rule_fault cells names ports declared task.Finish name = ports_fault ports declared
rule_fault cells names ports declared other name = None

abbrev pub move_fault : List CellParts → Reading → List ℕ → Option Move → Option VerilogKind
move_fault cells r name None = Some kind.Expected
move_fault cells r name (Some m) = rule_fault cells r.names (ports_of r.said) r.declared m.task name

-- the first rule that a token of this kind and this name breaks
abbrev pub token_fault : List CellParts → Reading → Kind → List ℕ → Option VerilogKind
token_fault cells r what name =
    if is_strange what then Some kind.BadByte else move_fault cells r name (move_at r.place what)

abbrev pub moved_on : Reading → List ℕ → Option Move → Reading
moved_on r name None = r
moved_on r name (Some m) = after m name r

-- what a piece breaks, and what is read with it
abbrev pub piece_fault : List CellParts → Reading → Kind → List ℕ → Option VerilogKind
piece_fault cells r what name = if is_gap what then None else token_fault cells r what name

abbrev pub piece_read : Reading → Kind → List ℕ → Reading
piece_read r what name = if is_gap what then r else moved_on r name (move_at r.place what)

-- a rule, and the line of the token that breaks it
pub record FaultAt : Type 0 where
  pub line : ℕ
  pub kind : VerilogKind

abbrev pub fault_or : ℕ → Option VerilogKind → Result Reading FaultAt → Result Reading FaultAt
fault_or line (Some k) other = Err (record { line = line; kind = k })
fault_or line None other = other

-- What tokens come to behind a reading: all that is read up to `endmodule`, or the first token that breaks a rule. The
-- last token is the end of the text, which may stand nowhere.
unfoldable pub read : List CellParts → Reading → List Token → Result Reading FaultAt
read cells r [] = Ok r
read cells r (t ∷ ts) =
    if is_done r.place then Ok r
    else fault_or t.line (token_fault cells r t.kind t.name)
    (read cells (moved_on r t.name (move_at r.place t.kind)) ts)
