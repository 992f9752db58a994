-- What the calls that read no file answer, what is known of what was read, and the text of an answer.
use Rattle.std.specs.Prelude.{ℕ, ◌≡◌, Bool, List, None, Result, Ok, Err}
use Rattle.lw_words.specs.Lines.{LogicalLine}
use Rattle.lw_named_netlist.specs.declared.fault.NetlistFault.{NetlistFault}
use Rattle.lw_named_netlist.specs.declared.fault.NetlistFault.TheVariants as netlist
use Rattle.lw_mapped.specs.Texts.{mapped_text}
use Rattle.lw_report.specs.declared.vectors.Vectors.{Vectors}
use Rattle.lw_report.specs.Blocks.{vectors_in}
use Rattle.lw_report.specs.Standing.{StandsFor, inputs_of, stop_of}
use Rattle.lw_report.specs.Timings.{timing_text}
use Rattle.lw_report.specs.Simulated.{IsNetworkSimulation, IsNetlistSimulation}
use Rattle.lw_verilog.specs.Texts.{verilog_text}
use Rattle.lw_lut.specs.Texts.{tables_text}
use Rattle.lw_files.specs.declared.fault.FileFault.{FileFault}
use Rattle.lw_files.specs.declared.fault.FileFault.TheVariants as file_fault
use Rattle.lw_files.specs.Steps.{Files}
use Rattle.lw_map.specs.declared.fault.MapFault.{MapFault}
use Rattle.lw_map.specs.declared.fault.MapFault.TheVariants as map_fault
use Rattle.lw_top.specs.declared.refusal.Refusal.{Refusal}
use Rattle.lw_top.specs.declared.refusal.Refusal.TheVariants.{Words, Faulty, Forms, Splits, NoCover, Points, Memory}
use Rattle.lw_top.specs.declared.refusal.Which.{Which}
use Rattle.lw_top.specs.declared.refusal.Which.TheVariants as which
use Rattle.lw_top.specs.Steps.{Step}
use Rattle.lw_top.specs.declared.answer.Answer.{Answer}
use Rattle.lw_top.specs.declared.answer.Answer.TheVariants as answer
use Rattle.lw_top.specs.Checks.{yes_text}
use Rattle.lw_top.specs.Counts.{counts_text, sizes_text}

-- the refusal of a network that has no answer
abbrev pub map_refusal : MapFault → Refusal
map_refusal map_fault.Forms = Forms
map_refusal map_fault.Splits = Splits
map_refusal (map_fault.NoCover name) = NoCover name
map_refusal map_fault.Points = Points
map_refusal map_fault.Memory = Memory

-- the refusal of a file; running out of memory is no fault of the file
abbrev pub file_refusal : Which → FileFault → Refusal
file_refusal w file_fault.Memory = Memory
file_refusal w other = Faulty w other

-- the refusal of a netlist in Verilog as a whole
abbrev pub netlist_refusal : NetlistFault → Refusal
netlist_refusal (netlist.Twice name) = Faulty which.Mapped (file_fault.Twice name)
netlist_refusal (netlist.Undriven name) = Faulty which.Mapped (file_fault.Undriven name)
netlist_refusal (netlist.Cycle name) = Faulty which.Mapped (file_fault.NetCycle name)
netlist_refusal netlist.Memory = Memory

-- The step has this outcome, whatever the files; running out of memory needs no reason, of the words nothing is
-- refused, and no file is unread.
abbrev pub Comes : {X A : Type 0} → (X → A) → Step A → Result X Refusal → Type 0
Comes view step (Ok x) = (files : Files) → step files (Ok (view x))
Comes view step (Err Memory) = Unit {0}
Comes view step (Err Words) = ⊥
Comes view step (Err (Faulty w file_fault.Unread)) = ⊥
Comes view step (Err other) = (files : Files) → step files (Err other)

-- What was read.

-- the vectors
abbrev pub values_in : Vectors → List (List Bool)
values_in vectors = vectors_in vectors.blocks.items

-- vectors of so many values, of which no line was refused
pub record AreReadVectors (inputs : ℕ) (vectors : Vectors) : Type 0 where
  pub inputs_are : inputs_of vectors ≡ inputs
  pub good : stop_of vectors ≡ None
  pub lines : List LogicalLine
  pub stands : StandsFor vectors lines

-- Answers.

-- the text is that of the answer
abbrev pub IsTextOf : Answer → List ℕ → Type 0
IsTextOf (answer.Mapping library netlist frame starts certificate) text =
    text ≡ mapped_text library netlist frame starts certificate
IsTextOf answer.Yes text = text ≡ yes_text
IsTextOf (answer.Times library netlist timing) text = text ≡ timing_text library netlist timing
IsTextOf (answer.Values network vectors sim) text = IsNetworkSimulation network (values_in vectors) text
IsTextOf (answer.GateValues library netlist vectors sim) text =
    IsNetlistSimulation library netlist (values_in vectors) text
IsTextOf (answer.Verilog library netlist) text = text ≡ verilog_text library netlist
IsTextOf (answer.Tables net frame) text = text ≡ tables_text net frame
IsTextOf (answer.Counts counts) text = text ≡ counts_text counts
IsTextOf (answer.Sizes sizes) text = text ≡ sizes_text sizes
