-- What the outcome of a run says of its status.
use Rattle.std.proofs.Common.{◌≡◌, ◌≢◌, ◌⊎◌, inl, inr, ℕ, ◌==◌, Bool, true, false, List, Option, Some, Result, Ok, Err, refl, subst, arith}
use Rattle.std.proofs.lemmas.Bool.{eqb-true, eqb-false}
use Rattle.lw_io.specs.declared.file.File.{File}
use Rattle.lw_io.specs.Causes.{Rose}
use Rattle.lw_io.specs.Files.{bytes_of}
use Rattle.lw_files.specs.declared.fault.FileFault.TheVariants as fault
use Rattle.lw_top.specs.declared.refusal.Refusal.{Refusal}
use Rattle.lw_top.specs.declared.refusal.Refusal.TheVariants.{Faulty, Memory}
use Rattle.lw_top.specs.declared.outcome.Outcome.{Outcome}
use Rattle.lw_top.specs.declared.outcome.Outcome.TheVariants.{Done, WriteFault, Refused}
use Rattle.lw_top.specs.Answers.{status_of, status_in}
use Rattle.lw_top.specs.Steps.{Step}
use Rattle.lw_files.specs.Reading.{Known}
use Rattle.lw_top.specs.Reading.{HasReason}
use Rattle.lw_top.specs.Words.{Command}
use Rattle.lw_top.specs.Telling.{outcome_line, refusal_line}
use Rattle.lw_top.specs.Complete.{HasAnswer, IsComplete}
use Rattle.lw_top.specs.Outcome.{IsDone, IsCutShort, Meets, outcome_status}

module _ {O : Type 0} (told : Option (List File)) (before now : ℕ) (taken : O → Option (List ℕ)) (is_finished : O → Bool) (faults : O → ℕ) (old new : O) (answer : Step (List ℕ)) where
  abbrev pub Met : Outcome → Type 0
  Met o = Meets told before now taken is_finished faults old new answer o

  refused_unread : (r : Refusal) → HasReason told before now answer r → status_of r ≡ 2 → Rose before now ⊎ ((files : List File) × (a : Result (List ℕ) Refusal) × (told ≡ Some files) × answer (bytes_of files) a × (status_in a ≡ 2))
  refused_unread (Faulty w fault.Unread) (inl rose) e = inl rose
  refused_unread (Faulty w fault.Unread) (inr found) e = inr (found.0, Err (Faulty w fault.Unread), found.1, found.2, refl)
  refused_unread other m e = absurd (omega (arith, e))

  pub unread : (o : Outcome) → Met o → outcome_status o ≡ 2 → Rose before now ⊎ ((files : List File) × (a : Result (List ℕ) Refusal) × (told ≡ Some files) × answer (bytes_of files) a × (status_in a ≡ 2))
  unread Done m e = absurd (omega (arith, e))
  unread WriteFault m e = absurd (omega (arith, e))
  unread (Refused r) m e = refused_unread r m.0 e

  pub done : (o : Outcome) → Met o → outcome_status o ≡ 0 → (text : List ℕ) × Known told answer (Ok text) × IsDone taken is_finished old new text
  done Done m e = m
  done WriteFault m e = absurd (omega (arith, e))
  done (Refused (Faulty w fault.Unread)) m e = absurd (omega (arith, e))
  done (Refused other) m e = absurd (omega (arith, e))

  pub cut : (o : Outcome) → Met o → outcome_status o ≡ 7 → (text : List ℕ) × Known told answer (Ok text) × IsCutShort taken faults old new text
  cut Done m e = absurd (omega (arith, e))
  cut WriteFault m e = m
  cut (Refused (Faulty w fault.Unread)) m e = absurd (omega (arith, e))
  cut (Refused other) m e = absurd (omega (arith, e))

  module _ (command : Option Command) (said : List ℕ → Type 0) (status : ℕ) (files : List File) where
    abbrev Has : Type 0
    Has = HasAnswer (answer (bytes_of files)) command said status

    -- an answer of the files, and the outcome's line
    refused : (r : Refusal) → answer (bytes_of files) (Err r) → status ≡ status_of r → said (outcome_line command (Refused r)) → Has
    refused r is e line = record { result = Err r; is = is; status_is = e; line = line }

    decided : (o : Outcome) → Met o → status ≡ outcome_status o → told ≡ Some files → said (outcome_line command o) → status ≢ 2 → status ≢ 7 → status ≢ 8 → Has
    decided Done m e is line not_2 not_7 not_8 = record { result = Ok m.0; is = m.1 files is; status_is = e; line = line }
    decided WriteFault m e is line not_2 not_7 not_8 = absurd (not_7 e)
    decided (Refused (Faulty w fault.Unread)) m e is line not_2 not_7 not_8 = absurd (not_2 e)
    decided (Refused Memory) m e is line not_2 not_7 not_8 = absurd (not_8 e)
    decided (Refused other) m e is line not_2 not_7 not_8 = refused other (m.0 files is) e line

    unread_has : (o : Outcome) → Met o → status ≡ outcome_status o → told ≡ Some files → said (outcome_line command o) → status ≡ 2 → (Rose before now → ⊥) → Has
    unread_has Done m e is line two quiet = absurd (omega (arith, e, two))
    unread_has WriteFault m e is line two quiet = absurd (omega (arith, e, two))
    unread_has (Refused (Faulty w fault.Unread)) (inl rose, same) e is line two quiet = absurd (quiet rose)
    unread_has (Refused (Faulty w fault.Unread)) (inr found, same) e is line two quiet =
        let are : found.0 ≡ files = cc in
        refused (Faulty w fault.Unread) (subst (λ fs. answer (bytes_of fs) (Err (Faulty w fault.Unread))) are found.2) e line
    unread_has (Refused other) m e is line two quiet = absurd (omega (arith, e, two))

    unwritten : (o : Outcome) → Met o → status ≡ outcome_status o → status ≡ 7 → Rose (faults old) (faults new)
    unwritten Done m e seven = absurd (omega (arith, e, seven))
    unwritten WriteFault m e seven = m.2.cause
    unwritten (Refused (Faulty w fault.Unread)) m e seven = absurd (omega (arith, e, seven))
    unwritten (Refused other) m e seven = absurd (omega (arith, e, seven))

    memory : (o : Outcome) → status ≡ outcome_status o → said (outcome_line command o) → status ≡ 8 → said (refusal_line command Memory)
    memory Done e line eight = absurd (omega (arith, e, eight))
    memory WriteFault e line eight = absurd (omega (arith, e, eight))
    memory (Refused Memory) e line eight = line
    memory (Refused (Faulty w fault.Memory)) e line eight = line
    memory (Refused other) e line eight = absurd (omega (arith, e, eight))

    by_status : (b c d : Bool) (o : Outcome) → status == 2 ≡ b → status == 7 ≡ c → status == 8 ≡ d → Met o → status ≡ outcome_status o → told ≡ Some files → said (outcome_line command o) → (Rose before now → ⊥) → (Rose (faults old) (faults new) → ⊥) → Has ⊎ (status ≡ 8)
    by_status true c d o two seven eight m e is line quiet steady = inl (unread_has o m e is line (eqb-true _ _ two) quiet)
    by_status false true d o two seven eight m e is line quiet steady = absurd (steady (unwritten o m e (eqb-true _ _ seven)))
    by_status false false true o two seven eight m e is line quiet steady = inr (eqb-true _ _ eight)
    by_status false false false o two seven eight m e is line quiet steady = inl (decided o m e is line (eqb-false _ _ two) (eqb-false _ _ seven) (eqb-false _ _ eight))

    pub complete : (o : Outcome) → Met o → status ≡ outcome_status o → told ≡ Some files → said (outcome_line command o) → IsComplete (answer (bytes_of files)) command said (Rose before now) (Rose (faults old) (faults new)) status
    complete o m e is line = record {
      decided = decided o m e is line;
      unread = unread_has o m e is line;
      unwritten = unwritten o m e;
      unfailed = by_status (status == 2) (status == 7) (status == 8) o refl refl refl m e is line;
      memory = memory o e line;
    }
