-- Each ending of a run has the status and the line of an answer, or something failed.
use Rattle.std.proofs.Common.{◌≡◌, ◌≢◌, ◌⊎◌, inl, inr, ℕ, ◌==◌, Bool, true, false, List, [], Option, Some, Ok, Err, refl, subst, arith}
use Rattle.std.proofs.lemmas.Bool.{eqb-true, eqb-false}
use Rattle.lw_io.specs.declared.file.File.{File}
use Rattle.lw_io.specs.Causes.{Rose}
use Rattle.lw_io.specs.Files.{bytes_of}
use Rattle.lw_files.specs.declared.fault.FileFault.TheVariants as fault
use Rattle.lw_map.specs.declared.fault.MapFault.TheVariants as map_fault
use Rattle.lw_area.specs.declared.outcome.Ending.{Ending}
use Rattle.lw_area.specs.declared.outcome.Ending.TheVariants.{Done, Mapped, WriteFault, Refused}
use Rattle.lw_area.specs.declared.refusal.Refusal.{Refusal}
use Rattle.lw_area.specs.declared.refusal.Refusal.TheVariants as refusal
use Rattle.lw_area.specs.declared.refusal.Refusal.TheVariants.{Library, Network, Further, Unmapped}
use Rattle.lw_area.specs.Answers.{IsTaskAnswer}
use Rattle.lw_area.specs.Complete.{HasAnswer, IsComplete}
use Rattle.lw_area.specs.Outcomes.{Meets, ending_line, ending_status}
use Rattle.lw_area.specs.Refusals.{refusal_line, status_of}
use Rattle.lw_area.specs.Words.{Task, mapping}

module _ {O : Type 0} (told : Option (List File)) (before now : ℕ) (taken : O → Option (List ℕ)) (is_finished : O → Bool) (faults : O → ℕ) (old new : O) (task : Task) (files : List File) (known : told ≡ Some files) (said : List ℕ → Type 0) (status : ℕ) where
  abbrev Met : Ending → Type 0
  Met e = Meets told before now taken is_finished faults old new (mapping task) e

  abbrev Has : Type 0
  Has = HasAnswer task (bytes_of files) said status

  -- an answer of the files, and the ending's line
  refused : (r : Refusal) → IsTaskAnswer task (bytes_of files) (Err r) → status ≡ status_of r → said (refusal_line task [] r) → Has
  refused r is e line = record { result = Err r; is = is; status_is = e; line = line }

  decided : (e : Ending) → Met e → status ≡ ending_status e → said (ending_line (mapping task) e) → status ≢ 2 → status ≢ 7 → status ≢ 8 → Has
  decided Done m e line not_2 not_7 not_8 = absurd m
  decided (Mapped notes) m e line not_2 not_7 not_8 = record { result = Ok m.0; is = m.1 files known; status_is = e; line = (notes, line) }
  decided WriteFault m e line not_2 not_7 not_8 = absurd (not_7 e)
  decided (Refused (Library fault.Unread)) m e line not_2 not_7 not_8 = absurd (not_2 e)
  decided (Refused (Network fault.Unread)) m e line not_2 not_7 not_8 = absurd (not_2 e)
  decided (Refused (Further place fault.Unread)) m e line not_2 not_7 not_8 = absurd (not_2 e)
  decided (Refused (refusal.Mapped fault.Unread)) m e line not_2 not_7 not_8 = absurd (not_2 e)
  decided (Refused (Library fault.Memory)) m e line not_2 not_7 not_8 = absurd (not_8 e)
  decided (Refused (Network fault.Memory)) m e line not_2 not_7 not_8 = absurd (not_8 e)
  decided (Refused (Further place fault.Memory)) m e line not_2 not_7 not_8 = absurd (not_8 e)
  decided (Refused (refusal.Mapped fault.Memory)) m e line not_2 not_7 not_8 = absurd (not_8 e)
  decided (Refused (Unmapped map_fault.Memory)) m e line not_2 not_7 not_8 = absurd (not_8 e)
  decided (Refused other) m e line not_2 not_7 not_8 = refused other (m.0 files known) e line

  unread_has : (e : Ending) → Met e → status ≡ ending_status e → said (ending_line (mapping task) e) → status ≡ 2 → (Rose before now → ⊥) → Has
  unread_has Done m e line two quiet = absurd m
  unread_has (Mapped notes) m e line two quiet = absurd (omega (arith, e, two))
  unread_has WriteFault m e line two quiet = absurd (omega (arith, e, two))
  unread_has (Refused (Library fault.Unread)) (inl rose, same) e line two quiet = absurd (quiet rose)
  unread_has (Refused (Library fault.Unread)) (inr found, same) e line two quiet =
      let are : found.0 ≡ files = cc in
      refused (Library fault.Unread) (subst (λ fs. IsTaskAnswer task (bytes_of fs) (Err (Library fault.Unread))) are found.2) e line
  unread_has (Refused (Network fault.Unread)) (inl rose, same) e line two quiet = absurd (quiet rose)
  unread_has (Refused (Network fault.Unread)) (inr found, same) e line two quiet =
      let are : found.0 ≡ files = cc in
      refused (Network fault.Unread) (subst (λ fs. IsTaskAnswer task (bytes_of fs) (Err (Network fault.Unread))) are found.2) e line
  unread_has (Refused (Further place fault.Unread)) (inl rose, same) e line two quiet = absurd (quiet rose)
  unread_has (Refused (Further place fault.Unread)) (inr found, same) e line two quiet =
      let are : found.0 ≡ files = cc in
      refused (Further place fault.Unread) (subst (λ fs. IsTaskAnswer task (bytes_of fs) (Err (Further place fault.Unread))) are found.2) e line
  unread_has (Refused (refusal.Mapped fault.Unread)) (inl rose, same) e line two quiet = absurd (quiet rose)
  unread_has (Refused (refusal.Mapped fault.Unread)) (inr found, same) e line two quiet =
      let are : found.0 ≡ files = cc in
      refused (refusal.Mapped fault.Unread) (subst (λ fs. IsTaskAnswer task (bytes_of fs) (Err (refusal.Mapped fault.Unread))) are found.2) e line
  unread_has (Refused (Unmapped map_fault.Memory)) m e line two quiet = absurd (omega (arith, e, two))
  unread_has (Refused other) m e line two quiet = absurd (omega (arith, e, two))

  unwritten : (e : Ending) → Met e → status ≡ ending_status e → status ≡ 7 → Rose (faults old) (faults new)
  unwritten Done m e seven = absurd m
  unwritten (Mapped notes) m e seven = absurd (omega (arith, e, seven))
  unwritten WriteFault m e seven = m.2.cause
  unwritten (Refused (Library fault.Unread)) m e seven = absurd (omega (arith, e, seven))
  unwritten (Refused (Network fault.Unread)) m e seven = absurd (omega (arith, e, seven))
  unwritten (Refused (Further place fault.Unread)) m e seven = absurd (omega (arith, e, seven))
  unwritten (Refused (refusal.Mapped fault.Unread)) m e seven = absurd (omega (arith, e, seven))
  unwritten (Refused (Unmapped map_fault.Memory)) m e seven = absurd (omega (arith, e, seven))
  unwritten (Refused other) m e seven = absurd (omega (arith, e, seven))

  memory : (e : Ending) → Met e → status ≡ ending_status e → said (ending_line (mapping task) e) → status ≡ 8 → said (refusal_line task [] (Unmapped map_fault.Memory))
  memory Done m e line eight = absurd m
  memory (Mapped notes) m e line eight = absurd (omega (arith, e, eight))
  memory WriteFault m e line eight = absurd (omega (arith, e, eight))
  memory (Refused (Library fault.Memory)) m e line eight = line
  memory (Refused (Network fault.Memory)) m e line eight = line
  memory (Refused (Further place fault.Memory)) m e line eight = line
  memory (Refused (refusal.Mapped fault.Memory)) m e line eight = line
  memory (Refused (Unmapped map_fault.Memory)) m e line eight = line
  memory (Refused (Library fault.Unread)) m e line eight = absurd (omega (arith, e, eight))
  memory (Refused (Network fault.Unread)) m e line eight = absurd (omega (arith, e, eight))
  memory (Refused (Further place fault.Unread)) m e line eight = absurd (omega (arith, e, eight))
  memory (Refused (refusal.Mapped fault.Unread)) m e line eight = absurd (omega (arith, e, eight))
  memory (Refused other) m e line eight = absurd (omega (arith, e, eight))

  by_status : (b c d : Bool) (e : Ending) → status == 2 ≡ b → status == 7 ≡ c → status == 8 ≡ d → Met e → status ≡ ending_status e → said (ending_line (mapping task) e) → (Rose before now → ⊥) → (Rose (faults old) (faults new) → ⊥) → Has ⊎ (status ≡ 8)
  by_status true c d o two seven eight m e line quiet steady = inl (unread_has o m e line (eqb-true _ _ two) quiet)
  by_status false true d o two seven eight m e line quiet steady = absurd (steady (unwritten o m e (eqb-true _ _ seven)))
  by_status false false true o two seven eight m e line quiet steady = inr (eqb-true _ _ eight)
  by_status false false false o two seven eight m e line quiet steady = inl (decided o m e line (eqb-false _ _ two) (eqb-false _ _ seven) (eqb-false _ _ eight))

  pub complete : (e : Ending) → Met e → status ≡ ending_status e → said (ending_line (mapping task) e) → IsComplete task (bytes_of files) said (Rose before now) (Rose (faults old) (faults new)) status
  complete o m e line = record {
    decided = decided o m e line;
    unread = unread_has o m e line;
    unwritten = unwritten o m e;
    unfailed = by_status (status == 2) (status == 7) (status == 8) o refl refl refl m e line;
    memory = memory o m e line;
  }
