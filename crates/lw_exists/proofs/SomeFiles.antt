-- What the files of a command say, or why they say nothing, cannot fail to be there.
use Rattle.std.proofs.Common.{ℕ, ◌≡◌, inl, inr, Bool, List, map, Option, Some, None, Result, Ok, Err, refl, ap, sym, subst}
use Rattle.lw_genlib.specs.Cells.{CellParts}
use Rattle.lw_blif.specs.declared.parsed.Parsed.{Parsed}
use Rattle.lw_netlist.specs.Netlists.{NetlistParts}
use Rattle.lw_named_netlist.specs.declared.fault.NetlistFault.TheVariants as netlist
use Rattle.lw_mapped.specs.declared.closing.Mapped.{Mapped as MappedParts}
use Rattle.lw_verilog.specs.declared.fault.VerilogFault.{VerilogFault}
use Rattle.lw_verilog.specs.declared.fault.VerilogFault.TheVariants as verilog_fault
use Rattle.lw_verilog.specs.Readings.{FaultAt, Reading, nothing_read, read}
use Rattle.lw_verilog.specs.Statements.{draft_of}
use Rattle.lw_verilog.specs.Tokens.{tokens}
use Rattle.lw_verilog.specs.Verdicts.{ComesTo, IsRead}
use Rattle.lw_report.specs.Vectors.{first_fault, vector_of}
use Rattle.lw_files.specs.declared.fault.FileFault.{FileFault}
use Rattle.lw_files.specs.declared.fault.FileFault.TheVariants.{Twice, Undriven, NetCycle}
use Rattle.lw_files.specs.Steps.{Files, StepTo, gives, followed_by}
use Rattle.lw_files.specs.Sources.{FileStep, text_of, lines_in}
use Rattle.lw_files.specs.Sources as file
use Rattle.lw_top.specs.declared.refusal.Refusal.{Refusal}
use Rattle.lw_top.specs.declared.refusal.Refusal.TheVariants.{Faulty, Verilog, Vector}
use Rattle.lw_top.specs.declared.refusal.Which.{Which}
use Rattle.lw_top.specs.declared.refusal.Which.TheVariants as which
use Rattle.lw_top.specs.Words.{Command, command_of}
use Rattle.lw_top.specs.Answers.{in_file, ReadsLibrary, ReadsModel, ReadsMapped, HasVerilog, HasVectors, text_in, ReadsVerilog, ReadsVectors, IsCommandAnswer, asked_for, IsAnswer}
use Rattle.lw_exists.specs.Weakly.{Weakly}
use Rattle.lw_exists.proofs.Weak.{sure, and_then, weaker}
use Rattle.lw_exists.proofs.SomeClosed.{Closes, some_closed}
use Rattle.lw_exists.proofs.SomeLibrary.{some_library}
use Rattle.lw_exists.proofs.SomeMapped.{some_mapped}
use Rattle.lw_exists.proofs.SomeModel.{some_model}

-- Steps.

-- a step and then the next one
pub some_followed : {E A B : Type 0} (first : StepTo E A) (next : A → StepTo E B) (files : Files) → Weakly ((r : Result A E) × first files r) → ((x : A) → first files (Ok x) → Weakly ((r : Result B E) × next x files r)) → Weakly ((r : Result B E) × followed_by first next files r)
some_followed {E} {A} {B} first next files w f = and_then w by_result
  where
    by_result : (r : Result A E) × first files r → Weakly ((r : Result B E) × followed_by first next files r)
    by_result (Ok x, is) = weaker (λ (r, comes). (r, inl (x, is, comes))) (f x is)
    by_result (Err e, is) = sure (Err e, inr (e, is, refl))

-- a fault of a file is a refusal that names it
some_in_file : {A : Type 0} (w : Which) (step : FileStep A) (files : Files) → Weakly ((r : Result A FileFault) × step files r) → Weakly ((r : Result A Refusal) × in_file w step files r)
some_in_file {A} w step files some = weaker by_result some
  where
    by_result : (r : Result A FileFault) × step files r → (r : Result A Refusal) × in_file w step files r
    by_result (Ok x, is) = (Ok x, is)
    by_result (Err fault, is) = (Err (Faulty w fault), (refl, is))

-- what a command comes to is the answer to its words
pub some_command_answer : (words : List (List ℕ)) (files : Files) (c : Command) → command_of words ≡ Some c → Weakly ((r : Result (List ℕ) Refusal) × IsCommandAnswer c files r) → Weakly ((r : Result (List ℕ) Refusal) × IsAnswer words files r)
some_command_answer words files c form some = weaker (λ (r, is). (r, inl (c, ap asked_for form, is))) some

-- Files.

pub read_library : (name : List ℕ) (files : Files) → Weakly ((r : Result (List CellParts) Refusal) × ReadsLibrary name files r)
read_library name files = some_in_file which.Library (file.ReadsLibrary name) files (some_library name files)

pub read_model : (name : List ℕ) (files : Files) → Weakly ((r : Result Parsed Refusal) × ReadsModel name files r)
read_model name files = some_in_file which.Network (file.ReadsModel name) files (some_model name files)

pub read_mapped : (name : List ℕ) (cells : List CellParts) (files : Files) → Weakly ((r : Result MappedParts Refusal) × ReadsMapped name cells files r)
read_mapped name cells files = some_in_file which.Mapped (file.ReadsMapped name cells) files (some_mapped name cells files)

by_vectors : (inputs : ℕ) (bytes : List ℕ) (files : Files) (o : Option ℕ) → first_fault inputs (lines_in bytes) ≡ o → (r : Result (List (List Bool)) Refusal) × HasVectors inputs bytes files r
by_vectors inputs bytes files None e = (Ok (map vector_of (lines_in bytes)), (e, refl))
by_vectors inputs bytes files (Some line) e = (Err (Vector line), e)

pub read_vectors : (name : List ℕ) (inputs : ℕ) (files : Files) → Weakly ((r : Result (List (List Bool)) Refusal) × ReadsVectors name inputs files r)
read_vectors name inputs files =
    some_followed (text_in which.Vectors name) (HasVectors inputs) files (some_in_file which.Vectors (gives (text_of name)) files (sure (text_of name files, refl))) (λ bytes is.
    sure (by_vectors inputs bytes files (first_fault inputs (lines_in bytes)) refl))

module _ (cells : List CellParts) (bytes : List ℕ) (files : Files) where
  abbrev HasSome : Type 0
  HasSome = (r : Result NetlistParts Refusal) × HasVerilog cells bytes files r

  abbrev outcome : Result Reading FaultAt
  outcome = read cells nothing_read (tokens bytes)

  at_outcome : (o : Result Reading FaultAt) → outcome ≡ o → (r : Result NetlistParts VerilogFault) → ComesTo cells o r → IsRead cells bytes r
  at_outcome o e r is = subst (λ (p : Result Reading FaultAt). ComesTo cells p r) (sym e) is

  by_closing : (said : Reading) → outcome ≡ Ok said → Closes (draft_of cells said.said) → HasSome
  by_closing said e (inl (n, is)) = (Ok n, at_outcome (Ok said) e (Ok n) is)
  by_closing said e (inr (name, inl h)) =
      (Err (Faulty which.Mapped (Twice name)), at_outcome (Ok said) e (Err (verilog_fault.Whole (netlist.Twice name))) h)
  by_closing said e (inr (name, inr (inl h))) =
      (Err (Faulty which.Mapped (Undriven name)), at_outcome (Ok said) e (Err (verilog_fault.Whole (netlist.Undriven name))) h)
  by_closing said e (inr (name, inr (inr h))) =
      (Err (Faulty which.Mapped (NetCycle name)), at_outcome (Ok said) e (Err (verilog_fault.Whole (netlist.Cycle name))) h)

  by_outcome : (o : Result Reading FaultAt) → outcome ≡ o → Weakly HasSome
  by_outcome (Ok said) e = weaker (by_closing said e) (some_closed (draft_of cells said.said))
  by_outcome (Err first) e =
      sure (Err (Verilog first.line first.kind), at_outcome (Err first) e (Err (verilog_fault.Line first.line first.kind)) refl)

pub read_verilog : (name : List ℕ) (cells : List CellParts) (files : Files) → Weakly ((r : Result NetlistParts Refusal) × ReadsVerilog name cells files r)
read_verilog name cells files =
    some_followed (text_in which.Mapped name) (HasVerilog cells) files (some_in_file which.Mapped (gives (text_of name)) files (sure (text_of name files, refl))) (λ bytes is.
    by_outcome cells bytes files (read cells nothing_read (tokens bytes)) refl)
