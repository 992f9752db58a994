-- No answer is that memory ran out.
use Rattle.std.proofs.Common.{ℕ, ◌≡◌, ◌≢◌, inl, inr, Bool, true, false, if◌then◌else◌, List, length, Option, Some, None, Result, Ok, Err, subst, arith}
use Rattle.std.specs.Prelude.{nat_le}
use Rattle.lw_genlib.specs.Cells.{CellParts}
use Rattle.lw_blif.specs.declared.parsed.Parsed.{Parsed}
use Rattle.lw_net.specs.Networks.{NetworkParts}
use Rattle.lw_fixed.specs.declared.micro.Micro.{Micro}
use Rattle.lw_words.specs.Limits.{most_bytes}
use Rattle.lw_mapped.specs.declared.closing.Mapped.{Mapped as MappedParts}
use Rattle.lw_files.specs.declared.fault.FileFault.{FileFault}
use Rattle.lw_files.specs.declared.fault.FileFault.TheVariants.{Unread, TooLong, Library, Network, Undefined, Cycle, Mapped, Twice, Undriven, NetCycle}
use Rattle.lw_files.specs.Steps.{Files, StepTo, gives, followed_by}
use Rattle.lw_files.specs.Faults.{fault_status}
use Rattle.lw_files.specs.Sources.{FileStep, within_limit, text_of, HasCells, HasModel, HasMapped}
use Rattle.lw_files.specs.Sources as file
use Rattle.lw_map.specs.Options.{Options}
use Rattle.lw_top.specs.declared.refusal.Refusal.{Refusal}
use Rattle.lw_top.specs.declared.refusal.Refusal.TheVariants.{Words, Faulty, Verilog, Vector, Forms, Splits, NoCover, Points, No, NoVerilog}
use Rattle.lw_top.specs.declared.refusal.Which.{Which}
use Rattle.lw_top.specs.declared.refusal.Which.TheVariants as which
use Rattle.lw_top.specs.Words.{Command, mapping, checking, timing, simulation, gate_simulation, counting, tabling, drawing, to_verilog, from_verilog, trading, command_of}
use Rattle.lw_top.specs.Maps.{LacksGraph, LacksMapping, Maps}
use Rattle.lw_top.specs.Checks.{Checks}
use Rattle.lw_top.specs.Counts.{Counts, Draws, drawing_options, at_once}
use Rattle.lw_top.specs.Reports.{Times, Simulates, SimulatesNetlist}
use Rattle.lw_top.specs.Tables.{Tabulates}
use Rattle.lw_top.specs.Trades.{Trades}
use Rattle.lw_top.specs.Verilogs.{SaysVerilog, SaysMapped}
use Rattle.lw_top.specs.Answers.{in_file, ReadsLibrary, ReadsModel, ReadsMapped, HasVerilog, HasVectors, text_in, ReadsVerilog, ReadsVectors, IsCommandAnswer, asked_for, IsAnswer, status_of, status_in}

-- what a step refuses is all of this kind
abbrev Refuses : {E A : Type 0} → (E → Type 0) → StepTo E A → Files → Type 0
Refuses {E} P step files = (e : E) → step files (Err e) → P e

followed : {E A B : Type 0} (P : E → Type 0) (first : StepTo E A) (next : A → StepTo E B) (files : Files) → Refuses P first files → ((x : A) → Refuses P (next x) files) → Refuses P (followed_by first next) files
followed P first next files f g e (inl (x, is, comes)) = g x e comes
followed P first next files f g e (inr (h, refused, same)) = let one : h ≡ e = cc in subst P one (f h refused)

-- Files.

-- the status of a file's fault is another one
abbrev IsOther : FileFault → Type 0
IsOther fault = fault_status fault ≢ 8

limit_other : (o : Option (List ℕ)) (fault : FileFault) → within_limit o ≡ Err fault → IsOther fault
limit_other None fault e = let same : Unread ≡ fault = cc in subst IsOther same (λ s. omega arith)
limit_other (Some bytes) fault e = by_length (nat_le (length bytes) most_bytes) e
  where
    by_length : (b : Bool) → ◌≡◌ {A = Result (List ℕ) FileFault} (if b then Ok bytes else Err TooLong) (Err fault) → IsOther fault
    by_length true f = λ s. cc
    by_length false f = let same : TooLong ≡ fault = cc in subst IsOther same (λ s. omega arith)

text_other : (name : List ℕ) (files : Files) → Refuses IsOther (gives (text_of name)) files
unfolding text_of
text_other name files fault e = limit_other (files name) fault e

cells_other : (bytes : List ℕ) (files : Files) → Refuses IsOther (HasCells bytes) files
cells_other bytes files (Library line kind) has = λ s. omega arith
cells_other bytes files other has = absurd has

model_other : (bytes : List ℕ) (files : Files) → Refuses IsOther (HasModel bytes) files
model_other bytes files (Network line kind) has = λ s. omega arith
model_other bytes files (Undefined name) has = λ s. omega arith
model_other bytes files (Cycle name) has = λ s. omega arith
model_other bytes files other has = absurd has

mapped_other : (cells : List CellParts) (bytes : List ℕ) (files : Files) → Refuses IsOther (HasMapped cells bytes) files
mapped_other cells bytes files (Mapped line kind) has = λ s. omega arith
mapped_other cells bytes files (Twice name) has = λ s. omega arith
mapped_other cells bytes files (Undriven name) has = λ s. omega arith
mapped_other cells bytes files (NetCycle name) has = λ s. omega arith
mapped_other cells bytes files other has = absurd has

-- Refusals.

abbrev IsReason : Refusal → Type 0
IsReason r = status_of r ≢ 8

file_reason : {A : Type 0} (w : Which) (step : FileStep A) (files : Files) → Refuses IsOther step files → Refuses IsReason (in_file w step) files
file_reason w step files each (Faulty v fault) (same, is) = each fault is
file_reason w step files each other is = absurd is

text_reason : (w : Which) (name : List ℕ) (files : Files) → Refuses IsReason (text_in w name) files
text_reason w name files = file_reason w (gives (text_of name)) files (text_other name files)

library_reason : (name : List ℕ) (files : Files) → Refuses IsReason (ReadsLibrary name) files
library_reason name files =
    file_reason which.Library (file.ReadsLibrary name) files (followed IsOther (gives (text_of name)) HasCells files (text_other name files) (λ bytes. cells_other bytes files))

model_reason : (name : List ℕ) (files : Files) → Refuses IsReason (ReadsModel name) files
model_reason name files =
    file_reason which.Network (file.ReadsModel name) files (followed IsOther (gives (text_of name)) HasModel files (text_other name files) (λ bytes. model_other bytes files))

mapped_reason : (name : List ℕ) (cells : List CellParts) (files : Files) → Refuses IsReason (ReadsMapped name cells) files
mapped_reason name cells files =
    file_reason which.Mapped (file.ReadsMapped name cells) files (followed IsOther (gives (text_of name)) (HasMapped cells) files (text_other name files) (λ bytes. mapped_other cells bytes files))

said_reason : (cells : List CellParts) (bytes : List ℕ) (files : Files) → Refuses IsReason (HasVerilog cells bytes) files
said_reason cells bytes files (Verilog line kind) is = λ s. omega arith
said_reason cells bytes files (Faulty which.Mapped (Twice name)) is = λ s. omega arith
said_reason cells bytes files (Faulty which.Mapped (Undriven name)) is = λ s. omega arith
said_reason cells bytes files (Faulty which.Mapped (NetCycle name)) is = λ s. omega arith
said_reason cells bytes files other is = absurd is

verilog_reason : (name : List ℕ) (cells : List CellParts) (files : Files) → Refuses IsReason (ReadsVerilog name cells) files
verilog_reason name cells files =
    followed IsReason (text_in which.Mapped name) (HasVerilog cells) files (text_reason which.Mapped name files) (λ bytes. said_reason cells bytes files)

vector_reason : (inputs : ℕ) (bytes : List ℕ) (files : Files) → Refuses IsReason (HasVectors inputs bytes) files
vector_reason inputs bytes files (Vector line) is = λ s. omega arith
vector_reason inputs bytes files other is = absurd is

vectors_reason : (name : List ℕ) (inputs : ℕ) (files : Files) → Refuses IsReason (ReadsVectors name inputs) files
vectors_reason name inputs files =
    followed IsReason (text_in which.Vectors name) (HasVectors inputs) files (text_reason which.Vectors name files) (λ bytes. vector_reason inputs bytes files)

graph_reason : (options : Options) (net : NetworkParts) (r : Refusal) → LacksGraph options net r → IsReason r
graph_reason options net Forms is = λ s. omega arith
graph_reason options net Splits is = λ s. omega arith
graph_reason options net other is = absurd is

cover_reason : (options : Options) (cells : List CellParts) (net : NetworkParts) (starts : List Micro) (r : Refusal) → LacksMapping options cells net starts r → IsReason r
cover_reason options cells net starts (NoCover name) is = λ s. omega arith
cover_reason options cells net starts Forms is = λ s. omega arith
cover_reason options cells net starts Splits is = λ s. omega arith
cover_reason options cells net starts other is = absurd is

check_reason : (options : Options) (cells : List CellParts) (model : Parsed) (m : MappedParts) (files : Files) → Refuses IsReason (Checks options cells model m) files
check_reason options cells model m files (No reason) is = λ s. omega arith
check_reason options cells model m files Forms is = λ s. omega arith
check_reason options cells model m files Splits is = λ s. omega arith
check_reason options cells model m files other is = absurd is

trade_reason : (deadline : Option Micro) (options : Options) (cells : List CellParts) (model : Parsed) (files : Files) → Refuses IsReason (Trades deadline options cells model) files
trade_reason deadline options cells model files Points is = λ s. omega arith
trade_reason deadline options cells model files (NoCover name) is = λ s. omega arith
trade_reason deadline options cells model files Forms is = λ s. omega arith
trade_reason deadline options cells model files Splits is = λ s. omega arith
trade_reason deadline options cells model files other is = absurd is

text_of_verilog : (cells : List CellParts) (m : MappedParts) (files : Files) → Refuses IsReason (SaysVerilog cells m) files
text_of_verilog cells m files (NoVerilog why) is = λ s. omega arith
text_of_verilog cells m files other is = absurd is

-- Commands.

module _ (files : Files) where
  -- the library, and what comes behind it
  with_library : (library : List ℕ) (next : List CellParts → StepTo Refusal (List ℕ)) → ((cells : List CellParts) → Refuses IsReason (next cells) files) → Refuses IsReason (followed_by (ReadsLibrary library) next) files
  with_library library next each = followed IsReason (ReadsLibrary library) next files (library_reason library files) each

  with_model : (network : List ℕ) (next : Parsed → StepTo Refusal (List ℕ)) → ((model : Parsed) → Refuses IsReason (next model) files) → Refuses IsReason (followed_by (ReadsModel network) next) files
  with_model network next each = followed IsReason (ReadsModel network) next files (model_reason network files) each

  with_mapped : (mapped : List ℕ) (cells : List CellParts) (next : MappedParts → StepTo Refusal (List ℕ)) → ((m : MappedParts) → Refuses IsReason (next m) files) → Refuses IsReason (followed_by (ReadsMapped mapped cells) next) files
  with_mapped mapped cells next each = followed IsReason (ReadsMapped mapped cells) next files (mapped_reason mapped cells files) each

  command_reason : (c : Command) → Refuses IsReason (IsCommandAnswer c) files
  command_reason (mapping options certified library network) =
      with_library library (λ cells. followed_by (ReadsModel network) (λ model. Maps options certified cells model)) (λ cells.
      with_model network (λ model. Maps options certified cells model) (λ model. cover_reason options cells model.network model.starts))
  command_reason (checking options library network mapped) =
      with_library library (λ cells. followed_by (ReadsModel network) (λ model. followed_by (ReadsMapped mapped cells) (λ m. Checks options cells model m))) (λ cells.
      with_model network (λ model. followed_by (ReadsMapped mapped cells) (λ m. Checks options cells model m)) (λ model.
      with_mapped mapped cells (λ m. Checks options cells model m) (λ m. check_reason options cells model m files)))
  command_reason (timing library mapped) =
      with_library library (λ cells. followed_by (ReadsMapped mapped cells) (λ m. Times cells m)) (λ cells.
      with_mapped mapped cells (λ m. Times cells m) (λ m r is. absurd is))
  command_reason (simulation network vectors) =
      with_model network (λ model. followed_by (ReadsVectors vectors model.network.inputs) (λ xs. Simulates model xs)) (λ model.
      followed IsReason (ReadsVectors vectors model.network.inputs) (λ xs. Simulates model xs) files (vectors_reason vectors model.network.inputs files) (λ xs r is. absurd is))
  command_reason (gate_simulation library mapped vectors) =
      with_library library (λ cells. followed_by (ReadsMapped mapped cells) (λ m. followed_by (ReadsVectors vectors m.netlist.inputs) (λ xs. SimulatesNetlist cells m.netlist xs))) (λ cells.
      with_mapped mapped cells (λ m. followed_by (ReadsVectors vectors m.netlist.inputs) (λ xs. SimulatesNetlist cells m.netlist xs)) (λ m.
      followed IsReason (ReadsVectors vectors m.netlist.inputs) (λ xs. SimulatesNetlist cells m.netlist xs) files (vectors_reason vectors m.netlist.inputs files) (λ xs r is. absurd is)))
  command_reason (counting options network) =
      with_model network (λ model. Counts options model) (λ model. graph_reason options model.network)
  command_reason (tabling leaves options network) =
      with_model network (λ model. Tabulates leaves options model) (λ model. graph_reason options model.network)
  command_reason (drawing seed count library) =
      with_library library (λ cells. Draws seed count cells) (λ cells r (net, is, lacks). cover_reason drawing_options cells net (at_once net.inputs) r lacks)
  command_reason (to_verilog library mapped) =
      with_library library (λ cells. followed_by (ReadsMapped mapped cells) (λ m. SaysVerilog cells m)) (λ cells.
      with_mapped mapped cells (λ m. SaysVerilog cells m) (λ m. text_of_verilog cells m files))
  command_reason (from_verilog library verilog) =
      with_library library (λ cells. followed_by (ReadsVerilog verilog cells) (λ n. SaysMapped cells n)) (λ cells.
      followed IsReason (ReadsVerilog verilog cells) (λ n. SaysMapped cells n) files (verilog_reason verilog cells files) (λ n r is. absurd is))
  command_reason (trading deadline options library network) =
      with_library library (λ cells. followed_by (ReadsModel network) (λ model. Trades deadline options cells model)) (λ cells.
      with_model network (λ model. Trades deadline options cells model) (λ model. trade_reason deadline options cells model files))

  asked_reason : (o : Option Command) → Refuses IsReason (gives {A = Command} (λ fs. asked_for o)) files
  asked_reason None r e = let same : Words ≡ r = cc in subst IsReason same (λ s. omega arith)
  asked_reason (Some c) r e = cc

pub no_want_of_memory : (words : List (List ℕ)) (files : Files) (a : Result (List ℕ) Refusal) → IsAnswer words files a → status_in a ≢ 8
no_want_of_memory words files (Ok text) is = λ s. omega arith
no_want_of_memory words files (Err r) is =
    followed IsReason (gives (λ fs. asked_for (command_of words))) IsCommandAnswer files (asked_reason files (command_of words)) (command_reason files) r is
