-- What the ending of a run says of its status.
use Rattle.std.proofs.Common.{◌≡◌, inl, inr, ℕ, Bool, List, [], Option, Some, Result, Ok, Err, subst, arith}
use Rattle.lw_io.specs.declared.file.File.{File}
use Rattle.lw_io.specs.Files.{bytes_of}
use Rattle.lw_files.specs.declared.fault.FileFault.{FileFault}
use Rattle.lw_files.specs.declared.fault.FileFault.TheVariants as fault
use Rattle.lw_files.specs.Faults.{fault_status}
use Rattle.lw_files.specs.Steps.{Files}
use Rattle.lw_files.specs.Sources.{ReadsModel}
use Rattle.lw_net.specs.Networks.{input_names}
use Rattle.lw_map.specs.declared.fault.MapFault.{MapFault}
use Rattle.lw_map.specs.declared.fault.MapFault.TheVariants as map_fault
use Rattle.lw_top.specs.Outcome.{IsDone}
use Rattle.lw_top.proofs.FaultStatuses.{fault_is_not_done, fault_names_no_output}
use Rattle.lw_area.specs.declared.outcome.Ending.{Ending}
use Rattle.lw_area.specs.declared.outcome.Ending.TheVariants.{Done, Mapped, WriteFault, Refused}
use Rattle.lw_area.specs.declared.refusal.Refusal.{Refusal}
use Rattle.lw_area.specs.declared.refusal.Refusal.TheVariants as refusal
use Rattle.lw_area.specs.declared.refusal.Refusal.TheVariants.{Library, Network, Further, Strange, Unmapped, No}
use Rattle.lw_area.specs.Answers.{IsTaskAnswer, Recovers}
use Rattle.lw_area.specs.Outcomes.{Meets, ending_line, ending_status}
use Rattle.lw_area.specs.Promises.{IsRecoveryOf, LacksOutput}
use Rattle.lw_area.specs.Refusals.{refusal_line, status_of}
use Rattle.lw_area.specs.Sources.{ReadsFurther, ReadsOne, in_further}
use Rattle.lw_area.specs.Words.{Asked, Task, WrongWord, mapping}
use Rattle.lw_area.proofs.Further.{further_never}
use Rattle.lw_area.proofs.Steps.{first, second, third, last_ok, last_err}

-- words ask for one thing
pub same_asked : (asked : Asked) (task : Task) → ◌≡◌ {A = Result Asked WrongWord} (Ok asked) (Ok (mapping task)) → asked ≡ mapping task
same_asked asked task e = cc

-- wrong words ask for nothing
pub not_asked : (wrong : WrongWord) (task : Task) → ◌≡◌ {A = Result Asked WrongWord} (Err wrong) (Ok (mapping task)) → ⊥
not_asked wrong task e = cc

-- an answer that is a text
pub recovery : (task : Task) (files : Files) (text : List ℕ) → IsTaskAnswer task files (Ok text) → IsRecoveryOf task files text
recovery task files text answer =
    let m = last_ok (first task) (second task) (third task) (Recovers task.settings) files text answer in
    record {
      read = record { cells = m.a; model = m.b; further = m.c; library_is = m.one; network_is = m.two; further_are = m.three };
      is = m.comes;
    }

-- files that are read have no reason against a mapping
one_maps : (names : List (List ℕ)) (place : ℕ) (word : List ℕ) (files : Files) (f : MapFault) → ReadsOne names place word files (Err (Unmapped f)) → ⊥
one_maps names place word files f (inl (model, read, placed)) = placed
one_maps names place word files f (inr (e, read, same)) = let is : e ≡ Unmapped f = cc in subst (λ (r : Refusal). in_further place (ReadsModel word) files (Err r)) is read

further_map : (names : List (List ℕ)) (words : List (List ℕ)) (files : Files) (f : MapFault) → ReadsFurther names 0 words files (Err (Unmapped f)) → ⊥
further_map names words files f = further_never names files (Unmapped f) (λ place word. one_maps names place word files f) 0 words

-- an answer that names an output
pub lacking : (task : Task) (files : Files) (name : List ℕ) → IsTaskAnswer task files (Err (Unmapped (map_fault.NoCover name))) → LacksOutput task files name
lacking task files name answer =
    let no_cover = map_fault.NoCover name in
    let m = last_err (first task) (second task) (third task) (Recovers task.settings) files (Unmapped no_cover) (λ is. is) (λ is. is) (λ model is. further_map (input_names model.network) task.more files no_cover is) answer in
    record {
      read = record { cells = m.a; model = m.b; further = m.c; library_is = m.one; network_is = m.two; further_are = m.three };
      lacks = m.comes;
    }

fault_not_one : (f : FileFault) → fault_status f ≡ 1 → ⊥
fault_not_one fault.Unread e = omega (arith, e)
fault_not_one other e = omega (arith, e)

-- a refusal is no text
pub not_done : (r : Refusal) → 0 ≡ status_of r → ⊥
not_done (Library f) e = fault_is_not_done f e
not_done (Network f) e = fault_is_not_done f e
not_done (Further place f) e = fault_is_not_done f e
not_done (Strange place name) e = omega (arith, e)
not_done (refusal.Mapped f) e = fault_is_not_done f e
not_done (Unmapped map_fault.Forms) e = omega (arith, e)
not_done (Unmapped map_fault.Splits) e = omega (arith, e)
not_done (Unmapped (map_fault.NoCover name)) e = omega (arith, e)
not_done (Unmapped map_fault.Points) e = omega (arith, e)
not_done (Unmapped map_fault.Memory) e = omega (arith, e)
not_done (No reason) e = omega (arith, e)

module _ {O : Type 0} (told : Option (List File)) (before now : ℕ) (taken : O → Option (List ℕ)) (is_finished : O → Bool) (faults : O → ℕ) (old new : O) (task : Task) (files : List File) (known : told ≡ Some files) where
  abbrev Met : Ending → Type 0
  Met e = Meets told before now taken is_finished faults old new (mapping task) e

  pub done : (e : Ending) → Met e → 0 ≡ ending_status e → (text : List ℕ) × IsRecoveryOf task (bytes_of files) text × IsDone taken is_finished old new text
  done Done m zero = absurd m
  done (Mapped notes) (text, is, written) zero = (text, recovery task (bytes_of files) text (is files known), written)
  done WriteFault m zero = absurd (omega (arith, zero))
  done (Refused r) m zero = absurd (not_done r zero)

  pub no_cover : (said : List ℕ → Type 0) (e : Ending) → Met e → 6 ≡ ending_status e → said (ending_line (mapping task) e) → (name : List ℕ) × LacksOutput task (bytes_of files) name × said (refusal_line task [] (Unmapped (map_fault.NoCover name)))
  no_cover said Done m six line = absurd m
  no_cover said (Mapped notes) m six line = absurd (omega (arith, six))
  no_cover said WriteFault m six line = absurd (omega (arith, six))
  no_cover said (Refused (Library f)) m six line = absurd (fault_names_no_output f six)
  no_cover said (Refused (Network f)) m six line = absurd (fault_names_no_output f six)
  no_cover said (Refused (Further place f)) m six line = absurd (fault_names_no_output f six)
  no_cover said (Refused (Strange place name)) m six line = absurd (omega (arith, six))
  no_cover said (Refused (refusal.Mapped f)) m six line = absurd (fault_names_no_output f six)
  no_cover said (Refused (Unmapped map_fault.Forms)) m six line = absurd (omega (arith, six))
  no_cover said (Refused (Unmapped map_fault.Splits)) m six line = absurd (omega (arith, six))
  no_cover said (Refused (Unmapped (map_fault.NoCover name))) m six line = (name, lacking task (bytes_of files) name (m.0 files known), line)
  no_cover said (Refused (Unmapped map_fault.Points)) m six line = absurd (omega (arith, six))
  no_cover said (Refused (Unmapped map_fault.Memory)) m six line = absurd (omega (arith, six))
  no_cover said (Refused (No reason)) m six line = absurd (omega (arith, six))

-- no ending has the status of wrong words
pub not_words : (e : Ending) → ending_status e ≡ 1 → ⊥
not_words Done one = omega (arith, one)
not_words (Mapped notes) one = omega (arith, one)
not_words WriteFault one = omega (arith, one)
not_words (Refused (Library f)) one = fault_not_one f one
not_words (Refused (Network f)) one = fault_not_one f one
not_words (Refused (Further place f)) one = fault_not_one f one
not_words (Refused (Strange place name)) one = omega (arith, one)
not_words (Refused (refusal.Mapped f)) one = fault_not_one f one
not_words (Refused (Unmapped map_fault.Forms)) one = omega (arith, one)
not_words (Refused (Unmapped map_fault.Splits)) one = omega (arith, one)
not_words (Refused (Unmapped (map_fault.NoCover name))) one = omega (arith, one)
not_words (Refused (Unmapped map_fault.Points)) one = omega (arith, one)
not_words (Refused (Unmapped map_fault.Memory)) one = omega (arith, one)
not_words (Refused (No reason)) one = omega (arith, one)
