-- A file's bytes, and then a step that reads no file.
use Rattle.std.proofs.Common.{ℕ, List, Option, Ok, Err, Result}
use Rattle.lw_io.specs.declared.file.File.{File}
use Rattle.lw_io.specs.Files.{bytes_of}
use Rattle.lw_files.specs.declared.fault.FileFault.{FileFault}
use Rattle.lw_files.specs.declared.fault.FileFault.TheVariants.{Unread, Memory}
use Rattle.lw_files.specs.Steps.{gives, followed_by}
use Rattle.lw_files.specs.Sources.{FileStep, text_of}
use Rattle.lw_files.specs.Reading.{Comes, HasReason, Reads, ReadsFile}
use Rattle.lw_files.proofs.Steps.{refused, after_reading}

module _ {X A : Type 0} (view : X → A) (told : Option (List File)) (before now : ℕ) (step : FileStep A) where
  -- a step that reads no file has a reason where it refuses
  reason : (e : FileFault) → Comes view step (Err e) → HasReason told before now step e
  reason Unread c = absurd c
  reason Memory c = tt
  reason other c = λ files is. c (bytes_of files)

  pub comes : (r : Result X FileFault) → Comes view step r → Reads view told before now step r
  comes (Ok x) c = λ files is. c (bytes_of files)
  comes (Err e) c = reason e c

module _ {B X A : Type 0} (bytes_of_it : B → List ℕ) (view : X → A) {F : Type 0} (told : F → Option (List File)) (faults : F → ℕ) (old new : F) (name : List ℕ) (next : List ℕ → FileStep A) where
  -- the file was not read
  pub bytes_refused : (e : FileFault) → ReadsFile bytes_of_it told faults old new (gives (text_of name)) (Err e) → ReadsFile view told faults old new (followed_by (gives (text_of name)) next) (Err e)
  bytes_refused e read = record {
    files = read.files;
    later = read.later;
    reads = refused (told old) (gives (text_of name)) next (faults old) (faults new) e read.reads;
  }

  -- it was read
  pub bytes_read : (b : B) (r : Result X FileFault) → ReadsFile bytes_of_it told faults old new (gives (text_of name)) (Ok b) → Comes view (next (bytes_of_it b)) r → ReadsFile view told faults old new (followed_by (gives (text_of name)) next) r
  bytes_read b r read c = record {
    files = read.files;
    later = read.later;
    reads = after_reading view (told old) (faults old) (faults new) (faults new) (gives (text_of name)) next (bytes_of_it b) r read.later read.reads (comes view (told old) (faults new) (faults new) (next (bytes_of_it b)) r c);
  }
