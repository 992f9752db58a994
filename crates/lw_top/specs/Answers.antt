-- The answer to words over known files: a list of steps, of which the first that refuses decides.
use Rattle.std.specs.Prelude.{◌≡◌, ℕ, Bool, List, map, Option, Some, None, Result, Ok, Err}
use Rattle.lw_fixed.specs.declared.micro.Micro.{Micro}
use Rattle.lw_genlib.specs.Cells.{CellParts}
use Rattle.lw_blif.specs.declared.parsed.Parsed.{Parsed}
use Rattle.lw_mapped.specs.declared.closing.Mapped.{Mapped as MappedParts}
use Rattle.lw_netlist.specs.Netlists.{NetlistParts}
use Rattle.lw_named_netlist.specs.declared.fault.NetlistFault.TheVariants as netlist
use Rattle.lw_verilog.specs.declared.fault.VerilogFault.TheVariants as verilog_fault
use Rattle.lw_verilog.specs.Verdicts.{IsRead}
use Rattle.lw_report.specs.Vectors.{first_fault, vector_of}
use Rattle.lw_map.specs.Options.{Options}
use Rattle.lw_files.specs.Steps.{Files, gives, followed_by}
use Rattle.lw_files.specs.declared.fault.FileFault.TheVariants as file_fault
use Rattle.lw_files.specs.Sources.{FileStep, lines_in}
use Rattle.lw_files.specs.Sources as file
use Rattle.lw_files.specs.Faults.{fault_status}
use Rattle.lw_top.specs.declared.refusal.Refusal.{Refusal}
use Rattle.lw_top.specs.declared.refusal.Refusal.TheVariants.{Words, Faulty, Verilog, Vector, Forms, Splits, NoCover}
use Rattle.lw_top.specs.declared.refusal.Refusal.TheVariants.{Points, No, NoVerilog, Memory}
use Rattle.lw_top.specs.declared.refusal.Which.{Which}
use Rattle.lw_top.specs.declared.refusal.Which.TheVariants as which
use Rattle.lw_top.specs.Steps.{Step}
use Rattle.lw_top.specs.Words.{Command, mapping, checking, timing, simulation, gate_simulation, counting, tabling}
use Rattle.lw_top.specs.Words.{drawing, to_verilog, from_verilog, trading, command_of}
use Rattle.lw_top.specs.Maps.{Maps}
use Rattle.lw_top.specs.Checks.{Checks}
use Rattle.lw_top.specs.Reports.{Times, Simulates, SimulatesNetlist}
use Rattle.lw_top.specs.Counts.{Counts, Draws}
use Rattle.lw_top.specs.Tables.{Tabulates}
use Rattle.lw_top.specs.Trades.{Trades}
use Rattle.lw_top.specs.Verilogs.{SaysVerilog, SaysMapped}

-- Files.

-- a step that reads this file of the command, whose fault is a refusal that names the file
abbrev pub in_file : {A : Type 0} → Which → FileStep A → Step A
in_file w step files (Ok x) = step files (Ok x)
in_file w step files (Err (Faulty v fault)) = (v ≡ w) × step files (Err fault)
in_file w step files (Err other) = ⊥

abbrev pub ReadsLibrary : List ℕ → Step (List CellParts)
ReadsLibrary name = in_file which.Library (file.ReadsLibrary name)

abbrev pub ReadsModel : List ℕ → Step Parsed
ReadsModel name = in_file which.Network (file.ReadsModel name)

abbrev pub ReadsMapped : List ℕ → List CellParts → Step MappedParts
ReadsMapped name cells = in_file which.Mapped (file.ReadsMapped name cells)

-- The netlist that the text in Verilog says by these cells, or the first line that breaks a rule, or else the fault of
-- the netlist as a whole.
abbrev pub HasVerilog : List CellParts → List ℕ → Step NetlistParts
HasVerilog cells bytes files (Ok n) = IsRead cells bytes (Ok n)
HasVerilog cells bytes files (Err (Verilog line kind)) = IsRead cells bytes (Err (verilog_fault.Line line kind))
HasVerilog cells bytes files (Err (Faulty which.Mapped (file_fault.Twice name))) =
    IsRead cells bytes (Err (verilog_fault.Whole (netlist.Twice name)))
HasVerilog cells bytes files (Err (Faulty which.Mapped (file_fault.Undriven name))) =
    IsRead cells bytes (Err (verilog_fault.Whole (netlist.Undriven name)))
HasVerilog cells bytes files (Err (Faulty which.Mapped (file_fault.NetCycle name))) =
    IsRead cells bytes (Err (verilog_fault.Whole (netlist.Cycle name)))
HasVerilog cells bytes files (Err other) = ⊥

-- the values of so many inputs that each line is, or the first line that is no vector
abbrev pub HasVectors : ℕ → List ℕ → Step (List (List Bool))
HasVectors inputs bytes files (Ok vectors) =
    (first_fault inputs (lines_in bytes) ≡ None) × (vectors ≡ map vector_of (lines_in bytes))
HasVectors inputs bytes files (Err (Vector line)) = first_fault inputs (lines_in bytes) ≡ Some line
HasVectors inputs bytes files (Err other) = ⊥

-- the text of this file of the command
abbrev pub text_in : Which → List ℕ → Step (List ℕ)
text_in w name = in_file w (gives (file.text_of name))

abbrev pub ReadsVerilog : List ℕ → List CellParts → Step NetlistParts
ReadsVerilog name cells = followed_by (text_in which.Mapped name) (HasVerilog cells)

abbrev pub ReadsVectors : List ℕ → ℕ → Step (List (List Bool))
ReadsVectors name inputs = followed_by (text_in which.Vectors name) (HasVectors inputs)

-- Commands.

-- what a mapping of the network comes to
abbrev pub IsMappingAnswer : Options → Bool → List ℕ → List ℕ → Step (List ℕ)
IsMappingAnswer options certified library network = followed_by (ReadsLibrary library)
    (λ cells. followed_by (ReadsModel network) (λ model. Maps options certified cells model))

-- what a check of the mapped netlist comes to
abbrev pub IsCheckAnswer : Options → List ℕ → List ℕ → List ℕ → Step (List ℕ)
IsCheckAnswer options library network mapped = followed_by (ReadsLibrary library)
    (λ cells. followed_by (ReadsModel network)
    (λ model. followed_by (ReadsMapped mapped cells) (λ m. Checks options cells model m)))

abbrev pub IsTimingAnswer : List ℕ → List ℕ → Step (List ℕ)
IsTimingAnswer library mapped =
    followed_by (ReadsLibrary library) (λ cells. followed_by (ReadsMapped mapped cells) (λ m. Times cells m))

abbrev pub IsSimulationAnswer : List ℕ → List ℕ → Step (List ℕ)
IsSimulationAnswer network vectors = followed_by (ReadsModel network)
    (λ model. followed_by (ReadsVectors vectors model.network.inputs) (λ xs. Simulates model xs))

abbrev pub IsGateSimulationAnswer : List ℕ → List ℕ → List ℕ → Step (List ℕ)
IsGateSimulationAnswer library mapped vectors = followed_by (ReadsLibrary library)
    (λ cells. followed_by (ReadsMapped mapped cells)
    (λ m. followed_by (ReadsVectors vectors m.netlist.inputs) (λ xs. SimulatesNetlist cells m.netlist xs)))

abbrev pub IsCountAnswer : Options → List ℕ → Step (List ℕ)
IsCountAnswer options network = followed_by (ReadsModel network) (λ model. Counts options model)

-- what a network comes to in lookup tables
abbrev pub IsTablingAnswer : ℕ → Options → List ℕ → Step (List ℕ)
IsTablingAnswer leaves options network = followed_by (ReadsModel network) (λ model. Tabulates leaves options model)

abbrev pub IsDrawingAnswer : ℕ → ℕ → List ℕ → Step (List ℕ)
IsDrawingAnswer seed count library = followed_by (ReadsLibrary library) (λ cells. Draws seed count cells)

-- what a mapped netlist comes to in Verilog
abbrev pub IsToVerilogAnswer : List ℕ → List ℕ → Step (List ℕ)
IsToVerilogAnswer library mapped =
    followed_by (ReadsLibrary library) (λ cells. followed_by (ReadsMapped mapped cells) (λ m. SaysVerilog cells m))

-- what a netlist in Verilog comes to as a mapped text
abbrev pub IsFromVerilogAnswer : List ℕ → List ℕ → Step (List ℕ)
IsFromVerilogAnswer library verilog =
    followed_by (ReadsLibrary library) (λ cells. followed_by (ReadsVerilog verilog cells) (λ n. SaysMapped cells n))

-- what a mapping of the network with the least area by a deadline comes to
abbrev pub IsTradingAnswer : Option Micro → Options → List ℕ → List ℕ → Step (List ℕ)
IsTradingAnswer deadline options library network = followed_by (ReadsLibrary library)
    (λ cells. followed_by (ReadsModel network) (λ model. Trades deadline options cells model))

-- what a command comes to
abbrev pub IsCommandAnswer : Command → Step (List ℕ)
IsCommandAnswer (mapping options certified library network) = IsMappingAnswer options certified library network
IsCommandAnswer (checking options library network mapped) = IsCheckAnswer options library network mapped
IsCommandAnswer (timing library mapped) = IsTimingAnswer library mapped
IsCommandAnswer (simulation network vectors) = IsSimulationAnswer network vectors
IsCommandAnswer (gate_simulation library mapped vectors) = IsGateSimulationAnswer library mapped vectors
IsCommandAnswer (counting options network) = IsCountAnswer options network
IsCommandAnswer (tabling leaves options network) = IsTablingAnswer leaves options network
IsCommandAnswer (drawing seed count library) = IsDrawingAnswer seed count library
IsCommandAnswer (to_verilog library mapped) = IsToVerilogAnswer library mapped
IsCommandAnswer (from_verilog library verilog) = IsFromVerilogAnswer library verilog
IsCommandAnswer (trading deadline options library network) = IsTradingAnswer deadline options library network

-- words of no written form are refused
abbrev pub asked_for : Option Command → Result Command Refusal
asked_for None = Err Words
asked_for (Some command) = Ok command

abbrev pub IsAnswerTo : Option Command → Step (List ℕ)
IsAnswerTo command = followed_by (gives (λ files. asked_for command)) IsCommandAnswer

-- what words come to
abbrev pub IsAnswer : List (List ℕ) → Step (List ℕ)
IsAnswer words = IsAnswerTo (command_of words)

-- two outcomes are the same refusal, or things that are alike
abbrev pub AreAlike : {E A : Type 0} → (A → A → Type 0) → Result A E → Result A E → Type 0
AreAlike Alike (Ok x) (Ok y) = Alike x y
AreAlike Alike (Err e) (Err h) = e ≡ h
AreAlike Alike a b = ⊥

-- Turns.

abbrev pub HasLibrary : List ℕ → Files → Type 0
HasLibrary name files = (cells : List CellParts) × ReadsLibrary name files (Ok cells)

abbrev pub HasNetwork : List ℕ → Files → Type 0
HasNetwork name files = (model : Parsed) × ReadsModel name files (Ok model)

abbrev pub HasNetlist : List ℕ → List ℕ → Files → Type 0
HasNetlist library mapped files = (cells : List CellParts) × (m : MappedParts) × ReadsLibrary library files (Ok cells)
    × ReadsMapped mapped cells files (Ok m)

-- the command reads this file
abbrev pub IsFileOf : Command → Which → Type 0
IsFileOf (mapping options certified library network) which.Library = Unit {0}
IsFileOf (mapping options certified library network) which.Network = Unit {0}
IsFileOf (checking options library network mapped) which.Library = Unit {0}
IsFileOf (checking options library network mapped) which.Network = Unit {0}
IsFileOf (checking options library network mapped) which.Mapped = Unit {0}
IsFileOf (timing library mapped) which.Library = Unit {0}
IsFileOf (timing library mapped) which.Mapped = Unit {0}
IsFileOf (simulation network vectors) which.Network = Unit {0}
IsFileOf (simulation network vectors) which.Vectors = Unit {0}
IsFileOf (gate_simulation library mapped vectors) which.Library = Unit {0}
IsFileOf (gate_simulation library mapped vectors) which.Mapped = Unit {0}
IsFileOf (gate_simulation library mapped vectors) which.Vectors = Unit {0}
IsFileOf (counting options network) which.Network = Unit {0}
IsFileOf (tabling leaves options network) which.Network = Unit {0}
IsFileOf (drawing seed count library) which.Library = Unit {0}
IsFileOf (to_verilog library mapped) which.Library = Unit {0}
IsFileOf (to_verilog library mapped) which.Mapped = Unit {0}
IsFileOf (from_verilog library verilog) which.Library = Unit {0}
IsFileOf (from_verilog library verilog) which.Mapped = Unit {0}
IsFileOf (trading deadline options library network) which.Library = Unit {0}
IsFileOf (trading deadline options library network) which.Network = Unit {0}
IsFileOf other w = ⊥

-- The file's turn comes: each file that the command reads before it is there, and within its limit and its grammar.
abbrev pub IsReached : Command → Which → Files → Type 0
IsReached (mapping options certified library network) which.Network files = HasLibrary library files
IsReached (checking options library network mapped) which.Network files = HasLibrary library files
IsReached (checking options library network mapped) which.Mapped files =
    HasLibrary library files × HasNetwork network files
IsReached (timing library mapped) which.Mapped files = HasLibrary library files
IsReached (simulation network vectors) which.Vectors files = HasNetwork network files
IsReached (gate_simulation library mapped vectors) which.Mapped files = HasLibrary library files
IsReached (gate_simulation library mapped vectors) which.Vectors files = HasNetlist library mapped files
IsReached (to_verilog library mapped) which.Mapped files = HasLibrary library files
IsReached (from_verilog library verilog) which.Mapped files = HasLibrary library files
IsReached (trading deadline options library network) which.Network files = HasLibrary library files
IsReached command w files = Unit {0}

-- Statuses.

-- the exit status of a refusal
abbrev pub status_of : Refusal → ℕ
status_of Words = 1
status_of (Faulty w fault) = fault_status fault
status_of Forms = 5
status_of Splits = 5
status_of Points = 5
status_of (NoCover name) = 6
status_of Memory = 8
status_of (No reason) = 9
status_of (Verilog line kind) = 10
status_of (Vector line) = 10
status_of (NoVerilog why) = 11

-- the exit status of an answer
abbrev pub status_in : Result (List ℕ) Refusal → ℕ
status_in (Ok text) = 0
status_in (Err r) = status_of r
