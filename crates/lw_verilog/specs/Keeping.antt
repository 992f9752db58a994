-- What is kept of the tokens that were read.
use Rattle.std.specs.Prelude.{ℕ, ◌+◌, ◌≡◌, ◌≤◌, ◌++◌, false, List, drop, length, Option, Some, None, Result, Ok, Err, ⊤}
use Rattle.lw_genlib.specs.Cells.{CellParts}
use Rattle.lw_named_netlist.specs.declared.draft.GateDraft.{GateDraft}
use Rattle.lw_verilog.specs.declared.contents.Contents.{Contents}
use Rattle.lw_verilog.specs.declared.fault.Refusal.{Refusal}
use Rattle.lw_verilog.specs.declared.fault.Refusal.TheVariants as refusal
use Rattle.lw_verilog.specs.declared.fault.VerilogFault.{VerilogFault}
use Rattle.lw_verilog.specs.declared.fault.VerilogFault.TheVariants as fault
use Rattle.lw_verilog.specs.declared.fault.VerilogKind.{VerilogKind}
use Rattle.lw_verilog.specs.declared.kind.Kind.{Kind}
use Rattle.lw_verilog.specs.declared.place.Task.{Task}
use Rattle.lw_verilog.specs.declared.place.Task.TheVariants as task
use Rattle.lw_verilog.specs.Readings.{Reading, cell_in, names_after, declared_after, missing_fault, nothing_read, read}
use Rattle.lw_verilog.specs.Readings.{rule_fault}
use Rattle.lw_verilog.specs.Statements.{all_in, header_in, inputs_in, model_of, outputs_in, gates_in, ties_in, wires_in}
use Rattle.lw_verilog.specs.Tokens.{is_end, tokens}

-- this is kept of a reading
pub record Keeps (cells : List CellParts) (c : Contents) (r : Reading) : Type 0 where
  pub place : c.place ≡ r.place
  pub names : c.names ≡ r.names
  pub declared : c.declared ≡ r.declared
  pub header : c.header ≡ all_in header_in r.said
  pub inputs : c.inputs ≡ all_in inputs_in r.said
  pub outputs : c.outputs ≡ all_in outputs_in r.said
  pub gates : c.gates ≡ all_in (gates_in cells) r.said
  pub wires : c.wires ≡ all_in wires_in r.said

-- the rule that a name breaks by its task
abbrev pub fault_in : List CellParts → Contents → Task → List ℕ → Option VerilogKind
fault_in cells c what name = rule_fault cells c.names (drop 1 c.header) c.declared what name

-- where an instance ends, nothing is missing in it
abbrev pub MayEnd : List CellParts → Contents → Task → Type 0
MayEnd cells c what = what ≡ task.Instance → missing_fault (cell_in cells c.names) (ties_in c.names) ≡ None

-- the netlist by names
abbrev pub draft_in : Contents → GateDraft
draft_in c =
    record { model = model_of c.header; inputs = c.inputs; outputs = c.outputs; gates = c.gates; wires = c.wires }

-- what stands behind the header stays
pub record KeepsBody (old new : Contents) : Type 0 where
  pub declared : new.declared ≡ old.declared
  pub inputs : new.inputs ≡ old.inputs
  pub outputs : new.outputs ≡ old.outputs
  pub gates : new.gates ≡ old.gates
  pub wires : new.wires ≡ old.wires

-- the parts have grown by what the statement of these names says at its end
pub record Adds (cells : List CellParts) (what : Task) (names : List (List ℕ)) (old new : Contents) : Type 0 where
  pub header : new.header ≡ old.header ++ header_in what names
  pub inputs : new.inputs ≡ old.inputs ++ inputs_in what names
  pub outputs : new.outputs ≡ old.outputs ++ outputs_in what names
  pub gates : new.gates ≡ old.gates ++ gates_in cells what names
  pub wires : new.wires ≡ old.wires ++ wires_in what names

-- a token has done its task
pub record Acts (cells : List CellParts) (what : Task) (name : List ℕ) (old new : Contents) : Type 0 where
  pub names : new.names ≡ names_after what name old.names
  pub declared : new.declared ≡ declared_after what name old.declared
  pub adds : Adds cells what old.names old new

-- how many names and gates there are that an input or a gate may come of
abbrev pub weight : Contents → ℕ
weight c = length c.names + (length c.inputs + length c.gates)

-- A token of this kind was taken, and the readings that are kept go on by it.
pub record TakesToken (cells : List CellParts) (what : Kind) (next : Reading → Reading)
    (old new : Contents) : Type 0 where
  pub weight : weight new ≤ weight old + 1
  pub ended : is_end what ≡ false
  pub keeps : (r : Reading) → Keeps cells old r → Keeps cells new (next r)

-- The rule that is told, or none. Running out of memory is always allowed.
abbrev pub TellsFault : Result (Unit {0}) Refusal → Option VerilogKind → Type 0
TellsFault (Ok u) o = o ≡ None
TellsFault (Err (refusal.Broken kind)) o = o ≡ Some kind
TellsFault (Err refusal.Memory) o = ⊤

-- the fault of a token that is refused in this line
abbrev pub refused_at : Refusal → ℕ → VerilogFault
refused_at (refusal.Broken kind) line = fault.Line line kind
refused_at refusal.Memory line = fault.Memory

-- These are the contents of a text without a fault, and there are no more names and gates than bytes.
pub record IsParsed (cells : List CellParts) (text : List ℕ) (c : Contents) : Type 0 where
  pub reading : Reading
  pub keeps : Keeps cells c reading
  pub is : read cells nothing_read (tokens text) ≡ Ok reading
  pub few : length c.inputs + length c.gates ≤ length text

-- The first token that breaks a rule is told. Running out of memory is always allowed.
abbrev pub TellsParse : List CellParts → List ℕ → VerilogFault → Type 0
TellsParse cells text (fault.Line line kind) =
    read cells nothing_read (tokens text) ≡ Err (record { line = line; kind = kind })
TellsParse cells text (fault.Whole other) = ⊥
TellsParse cells text fault.Memory = ⊤
