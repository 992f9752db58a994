-- Answers to words for a mapped netlist cannot fail to be there: of a check, of the times and values, and of both ways of Verilog.
use Rattle.std.proofs.Common.{ℕ, ◌≡◌, List, Option, Some, None, Result, Ok, Err, refl}
use Rattle.lw_genlib.specs.Cells.{CellParts}
use Rattle.lw_named_netlist.specs.declared.fault.NetlistFault.TheVariants as netlist
use Rattle.lw_mapped.specs.declared.closing.Mapped.{Mapped as MappedParts}
use Rattle.lw_verilog.specs.declared.reason.NoVerilog.{NoVerilog}
use Rattle.lw_verilog.specs.Sayable.{refused}
use Rattle.lw_verilog.specs.Texts.{verilog_text}
use Rattle.lw_files.specs.Steps.{Files, followed_by}
use Rattle.lw_files.proofs.Kept.{cells_kept, model_kept, mapped_kept}
use Rattle.lw_map.specs.Options.{Options}
use Rattle.lw_top.specs.declared.refusal.Refusal.{Refusal}
use Rattle.lw_top.specs.declared.refusal.Refusal.TheVariants.{Verilog, NoVerilog as NoText}
use Rattle.lw_top.specs.Checks.{Checks}
use Rattle.lw_top.specs.Reports.{Times, SimulatesNetlist}
use Rattle.lw_top.specs.Verilogs.{plain_text, SaysVerilog, SaysMapped}
use Rattle.lw_top.specs.Words.{checking, timing, gate_simulation, to_verilog, from_verilog, command_of}
use Rattle.lw_top.specs.Answers.{ReadsLibrary, ReadsModel, ReadsMapped, ReadsVerilog, ReadsVectors, IsAnswer}
use Rattle.lw_top.proofs.InRange.{command_in_range}
use Rattle.lw_exists.specs.Weakly.{Weakly}
use Rattle.lw_exists.proofs.Weak.{sure, weaker}
use Rattle.lw_exists.proofs.SomeFiles.{some_followed, some_command_answer, read_library, read_model, read_mapped, read_vectors, read_verilog}
use Rattle.lw_exists.proofs.SomeTiming.{some_timing_text, some_netlist_lines}
use Rattle.lw_exists.proofs.SomeChecks.{some_checks}

some_verilog : (cells : List CellParts) (m : MappedParts) (files : Files) → (r : Result (List ℕ) Refusal) × SaysVerilog cells m files r
some_verilog cells m files = by_reason (refused cells m.netlist m.frame) refl
  where
    by_reason : (o : Option NoVerilog) → refused cells m.netlist m.frame ≡ o → (r : Result (List ℕ) Refusal) × SaysVerilog cells m files r
    by_reason None e = (Ok (verilog_text cells m.netlist), (e, refl))
    by_reason (Some why) e = (Err (NoText why), e)

module _ (words : List (List ℕ)) (files : Files) where
  pub some_check_answer : (options : Options) (library network mapped : List ℕ) → command_of words ≡ Some (checking options library network mapped) → Weakly ((r : Result (List ℕ) Refusal) × IsAnswer words files r)
  some_check_answer options library network mapped form =
      some_command_answer words files (checking options library network mapped) form
      (some_followed (ReadsLibrary library) (λ cells. followed_by (ReadsModel network) (λ model. followed_by (ReadsMapped mapped cells) (λ m. Checks options cells model m))) files (read_library library files) (λ cells lib.
      some_followed (ReadsModel network) (λ model. followed_by (ReadsMapped mapped cells) (λ m. Checks options cells model m)) files (read_model network files) (λ model net.
      some_followed (ReadsMapped mapped cells) (λ m. Checks options cells model m) files (read_mapped mapped cells files) (λ m is.
      some_checks options cells model m files (command_in_range words (checking options library network mapped) form) (model_kept network files model net) (mapped_kept mapped cells files m is)))))

  pub some_timing_answer : (library mapped : List ℕ) → command_of words ≡ Some (timing library mapped) → Weakly ((r : Result (List ℕ) Refusal) × IsAnswer words files r)
  some_timing_answer library mapped form =
      some_command_answer words files (timing library mapped) form
      (some_followed (ReadsLibrary library) (λ cells. followed_by (ReadsMapped mapped cells) (λ m. Times cells m)) files (read_library library files) (λ cells lib.
      some_followed (ReadsMapped mapped cells) (λ m. Times cells m) files (read_mapped mapped cells files) (λ m is.
      let kept = mapped_kept mapped cells files m is in
      weaker (λ (text, says). (Ok text, says)) (some_timing_text cells m.netlist m.starts (cells_kept library files cells lib) kept.netlist kept.over))))

  pub some_gate_simulation_answer : (library mapped vectors : List ℕ) → command_of words ≡ Some (gate_simulation library mapped vectors) → Weakly ((r : Result (List ℕ) Refusal) × IsAnswer words files r)
  some_gate_simulation_answer library mapped vectors form =
      some_command_answer words files (gate_simulation library mapped vectors) form
      (some_followed (ReadsLibrary library) (λ cells. followed_by (ReadsMapped mapped cells) (λ m. followed_by (ReadsVectors vectors m.netlist.inputs) (λ xs. SimulatesNetlist cells m.netlist xs))) files (read_library library files) (λ cells lib.
      some_followed (ReadsMapped mapped cells) (λ m. followed_by (ReadsVectors vectors m.netlist.inputs) (λ xs. SimulatesNetlist cells m.netlist xs)) files (read_mapped mapped cells files) (λ m is.
      some_followed (ReadsVectors vectors m.netlist.inputs) (λ xs. SimulatesNetlist cells m.netlist xs) files (read_vectors vectors m.netlist.inputs files) (λ xs has.
      let (text, are) = some_netlist_lines cells m.netlist (mapped_kept mapped cells files m is).netlist xs in
      sure (Ok text, are)))))

  pub some_to_verilog_answer : (library mapped : List ℕ) → command_of words ≡ Some (to_verilog library mapped) → Weakly ((r : Result (List ℕ) Refusal) × IsAnswer words files r)
  some_to_verilog_answer library mapped form =
      some_command_answer words files (to_verilog library mapped) form
      (some_followed (ReadsLibrary library) (λ cells. followed_by (ReadsMapped mapped cells) (λ m. SaysVerilog cells m)) files (read_library library files) (λ cells lib.
      some_followed (ReadsMapped mapped cells) (λ m. SaysVerilog cells m) files (read_mapped mapped cells files) (λ m is.
      sure (some_verilog cells m files))))

  pub some_from_verilog_answer : (library verilog : List ℕ) → command_of words ≡ Some (from_verilog library verilog) → Weakly ((r : Result (List ℕ) Refusal) × IsAnswer words files r)
  some_from_verilog_answer library verilog form =
      some_command_answer words files (from_verilog library verilog) form
      (some_followed (ReadsLibrary library) (λ cells. followed_by (ReadsVerilog verilog cells) (λ n. SaysMapped cells n)) files (read_library library files) (λ cells lib.
      some_followed (ReadsVerilog verilog cells) (λ n. SaysMapped cells n) files (read_verilog verilog cells files) (λ n is.
      sure (Ok (plain_text cells n), refl))))
