-- What a text is that was written in Verilog, or of a netlist in Verilog, and why there is none.
use Rattle.std.proofs.Common.{◌≡◌, inl, inr, ℕ, Bool, List, Option, Some, Ok, Err, subst, arith}
use Rattle.lw_io.specs.declared.file.File.{File}
use Rattle.lw_io.specs.Files.{bytes_of}
use Rattle.lw_verilog.specs.declared.reason.NoVerilog.{NoVerilog}
use Rattle.lw_files.specs.declared.fault.FileFault.{FileFault}
use Rattle.lw_files.specs.declared.fault.FileFault.TheVariants.{Unread}
use Rattle.lw_files.specs.Faults.{fault_status}
use Rattle.lw_files.specs.Steps.{Files}
use Rattle.lw_top.specs.declared.refusal.Refusal.{Refusal}
use Rattle.lw_top.specs.declared.refusal.Refusal.TheVariants.{Faulty, NoVerilog as Unsayable}
use Rattle.lw_top.specs.declared.outcome.Outcome.{Outcome}
use Rattle.lw_top.specs.declared.outcome.Outcome.TheVariants.{Done, WriteFault, Refused}
use Rattle.lw_top.specs.Words.{to_verilog, from_verilog, command_of}
use Rattle.lw_top.specs.Answers.{ReadsLibrary, ReadsMapped, IsToVerilogAnswer, IsFromVerilogAnswer, IsAnswer}
use Rattle.lw_top.specs.Outcome.{Meets, outcome_status}
use Rattle.lw_top.specs.Telling.{outcome_line, refusal_line}
use Rattle.lw_top.specs.Translated.{AsksForVerilog, AsksForMapped, IsVerilogText, LacksVerilog, IsTextOfVerilog}
use Rattle.lw_top.proofs.Asked.{asked_answer}

module _ (words : List (List ℕ)) (files : Files) where
  module _ (asks : AsksForVerilog words) where
    said : (text : List ℕ) → IsToVerilogAnswer asks.library asks.mapped files (Ok text) → IsVerilogText words files text
    said text (inl (cells, lib, inl (m, read, says))) = record { asks = asks; cells = cells; mapped = m; library = lib; read = read; sayable = says.0; written = says.1 }
    said text (inl (cells, lib, inr (e, refused, is))) = cc
    said text (inr (e, refused, is)) = cc

    unsaid : (why : NoVerilog) → IsToVerilogAnswer asks.library asks.mapped files (Err (Unsayable why)) → LacksVerilog words files why
    unsaid why (inl (cells, lib, inl (m, read, says))) = record { asks = asks; cells = cells; mapped = m; library = lib; read = read; unsayable = says }
    unsaid why (inl (cells, lib, inr (e, refused, is))) =
        let same : e ≡ Unsayable why = cc in
        absurd (subst (λ (r : Refusal). ReadsMapped asks.mapped cells files (Err r)) same refused)
    unsaid why (inr (e, refused, is)) =
        let same : e ≡ Unsayable why = cc in
        absurd (subst (λ (r : Refusal). ReadsLibrary asks.library files (Err r)) same refused)

    pub answer_said : (text : List ℕ) → IsAnswer words files (Ok text) → IsVerilogText words files text
    answer_said text answer = said text (asked_answer words files (to_verilog asks.library asks.mapped) (Ok text) asks.form answer)

    pub answer_unsaid : (why : NoVerilog) → IsAnswer words files (Err (Unsayable why)) → LacksVerilog words files why
    answer_unsaid why answer = unsaid why (asked_answer words files (to_verilog asks.library asks.mapped) (Err (Unsayable why)) asks.form answer)

  module _ (asks : AsksForMapped words) where
    back : (text : List ℕ) → IsFromVerilogAnswer asks.library asks.verilog files (Ok text) → IsTextOfVerilog words files text
    back text (inl (cells, lib, inl (n, read, says))) = record { asks = asks; cells = cells; netlist = n; library = lib; read = read; written = says }
    back text (inl (cells, lib, inr (e, refused, is))) = cc
    back text (inr (e, refused, is)) = cc

    pub answer_back : (text : List ℕ) → IsAnswer words files (Ok text) → IsTextOfVerilog words files text
    answer_back text answer = back text (asked_answer words files (from_verilog asks.library asks.verilog) (Ok text) asks.form answer)

-- no fault of a file has status 11
pub fault_says_verilog : (fault : FileFault) → 11 ≡ fault_status fault → ⊥
fault_says_verilog Unread e = omega (arith, e)
fault_says_verilog other e = omega (arith, e)

-- a run with status 11 names the first test that the netlist fails
pub named_unsaid : {O : Type 0} (words : List (List ℕ)) (told : Option (List File)) (before now : ℕ) (taken : O → Option (List ℕ)) (is_finished : O → Bool) (faults : O → ℕ) (old new : O) (said : List ℕ → Type 0) → AsksForVerilog words → (o : Outcome) → Meets told before now taken is_finished faults old new (IsAnswer words) o → said (outcome_line (command_of words) o) → (files : List File) → told ≡ Some files → 11 ≡ outcome_status o → (why : NoVerilog) × LacksVerilog words (bytes_of files) why × said (refusal_line (command_of words) (Unsayable why))
named_unsaid words told before now taken is_finished faults old new said asks Done m line files is e = absurd (omega (arith, e))
named_unsaid words told before now taken is_finished faults old new said asks WriteFault m line files is e = absurd (omega (arith, e))
named_unsaid words told before now taken is_finished faults old new said asks (Refused (Unsayable why)) m line files is e = (why, answer_unsaid words (bytes_of files) asks why (m.0 files is), line)
named_unsaid words told before now taken is_finished faults old new said asks (Refused (Faulty w fault)) m line files is e = absurd (fault_says_verilog fault e)
named_unsaid words told before now taken is_finished faults old new said asks (Refused other) m line files is e = absurd (omega (arith, e))
