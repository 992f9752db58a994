-- A file that is read by its name, as a file of the command.
use Rattle.std.proofs.Common.{◌≡◌, ◌≢◌, inl, inr, ℕ, List, Option, Ok, Err, refl}
use Rattle.lw_io.specs.declared.file.File.{File}
use Rattle.lw_files.specs.declared.fault.FileFault.{FileFault}
use Rattle.lw_files.specs.declared.fault.FileFault.TheVariants as fault
use Rattle.lw_files.specs.Sources.{FileStep}
use Rattle.lw_files.specs.Reading as file
use Rattle.lw_top.specs.declared.refusal.Refusal.{Refusal}
use Rattle.lw_top.specs.declared.refusal.Refusal.TheVariants.{Words}
use Rattle.lw_top.specs.declared.refusal.Which.{Which}
use Rattle.lw_top.specs.Answers.{in_file}
use Rattle.lw_top.specs.Reading.{HasReason, Blames, ReadsFile}
use Rattle.lw_top.specs.Named.{file_refusal}

module _ {A : Type 0} (told : Option (List File)) (before now : ℕ) (w : Which) (step : FileStep A) where
  reason : (f : FileFault) → file.HasReason told before now step f → HasReason told before now (in_file w step) (file_refusal w f)
  reason fault.Unread (inl rose) = inl rose
  reason fault.Unread (inr found) = inr (found.0, found.1, (refl, found.2))
  reason fault.Memory known = tt
  reason other known = λ files is. (refl, known files is)

not_words : (w : Which) (f : FileFault) → file_refusal w f ≢ Words
not_words w fault.Memory = λ is. cc
not_words w other = λ is. cc

blames : (w : Which) (f : FileFault) → Blames w (file_refusal w f)
blames w fault.Unread = refl
blames w other = tt

module _ {X A : Type 0} (view : X → A) {F : Type 0} (told : F → Option (List File)) (faults : F → ℕ) (old new : F) (w : Which) (step : FileStep A) where
  -- the file is refused by its name
  pub file_faulty : (f : FileFault) (e : Refusal) → e ≡ file_refusal w f → file.ReadsFile view told faults old new step (Err f) → ReadsFile view told faults old new w (in_file w step) (Err e)
  file_faulty f e is read = rw is (record {
    files = read.files;
    later = read.later;
    not_words = not_words w f;
    blames = blames w f;
    reads = reason (told old) (faults old) (faults new) w step f read.reads;
  })

  -- it is read
  pub file_read : (x : X) → file.ReadsFile view told faults old new step (Ok x) → ReadsFile view told faults old new w (in_file w step) (Ok x)
  file_read x read = record { files = read.files; later = read.later; not_words = tt; blames = tt; reads = read.reads }
