-- There is no text in Verilog exactly where one of the tests refuses the netlist.
use Rattle.std.proofs.Common.{◌≡◌, ◌↔◌, inl, ℕ, List, Result, Ok, Err, ap, sym, arith}
use Rattle.lw_verilog.specs.declared.reason.NoVerilog.{NoVerilog}
use Rattle.lw_files.specs.Steps.{Files}
use Rattle.lw_top.specs.declared.refusal.Refusal.{Refusal}
use Rattle.lw_top.specs.declared.refusal.Refusal.TheVariants.{Faulty, NoVerilog as Unsayable}
use Rattle.lw_top.specs.Words.{to_verilog}
use Rattle.lw_top.specs.Answers.{asked_for, IsAnswer, status_in}
use Rattle.lw_top.specs.Translated.{AsksForVerilog, LacksVerilog}
use Rattle.lw_top.proofs.Translated.{answer_unsaid, fault_says_verilog}
use Rattle.lw_answers.proofs.One.{answers_alike}
use Rattle.lw_answers.proofs.Untraded.{alike_status}

module _ (words : List (List ℕ)) (files : Files) where
  abbrev HasReason : Type 0
  HasReason = (why : NoVerilog) × LacksVerilog words files why

  refused : AsksForVerilog words → (a : Result (List ℕ) Refusal) → IsAnswer words files a → 11 ≡ status_in a → HasReason
  refused asks (Ok text) answer e = absurd (omega (arith, e))
  refused asks (Err (Unsayable why)) answer e = (why, answer_unsaid words files asks why answer)
  refused asks (Err (Faulty w fault)) answer e = absurd (fault_says_verilog fault e)
  refused asks (Err other) answer e = absurd (omega (arith, e))

  eleven : (a : Result (List ℕ) Refusal) → IsAnswer words files a → HasReason → status_in a ≡ 11
  eleven a answer (why, lacks) =
      let own : IsAnswer words files (Err (Unsayable why)) = inl (to_verilog lacks.asks.library lacks.asks.mapped, ap asked_for lacks.asks.form, inl (lacks.cells, lacks.library, inl (lacks.mapped, lacks.read, lacks.unsayable))) in
      alike_status a (Unsayable why) (answers_alike words files a (Err (Unsayable why)) answer own)

  pub no_verilog_exactly : AsksForVerilog words → (a : Result (List ℕ) Refusal) → IsAnswer words files a → (status_in a ≡ 11) ↔ HasReason
  no_verilog_exactly asks a answer = ((λ e. refused asks a answer (sym e)), eleven a answer)
