-- A file's bytes, and then a step that reads no file.
use Rattle.std.proofs.Common.{◌≢◌, ℕ, ◌≤◌, List, Option, Ok, Err, Result}
use Rattle.std.specs.Prelude.{IfErr}
use Rattle.lw_io.specs.declared.file.File.{File}
use Rattle.lw_io.specs.Files.{bytes_of}
use Rattle.lw_files.specs.declared.fault.FileFault.TheVariants as fault
use Rattle.lw_files.specs.Steps.{followed_by}
use Rattle.lw_files.specs.Reading.{Known}
use Rattle.lw_files.proofs.Steps.{answered}
use Rattle.lw_top.specs.declared.refusal.Refusal.{Refusal}
use Rattle.lw_top.specs.declared.refusal.Refusal.TheVariants.{Words, Faulty, Memory}
use Rattle.lw_top.specs.declared.refusal.Which.{Which}
use Rattle.lw_top.specs.Steps.{Step}
use Rattle.lw_top.specs.Answers.{text_in}
use Rattle.lw_top.specs.Reading.{Blames, HasReason, Reads, ReadsFile}
use Rattle.lw_top.specs.Named.{Comes}
use Rattle.lw_top.proofs.Steps.{refused, refused_later}

module _ {X A : Type 0} (view : X → A) (told : Option (List File)) (before now : ℕ) (step : Step A) where
  -- a step that reads no file has a reason where it refuses
  reason : (e : Refusal) → Comes view step (Err e) → HasReason told before now step e
  reason Words c = absurd c
  reason (Faulty w fault.Unread) c = absurd c
  reason Memory c = tt
  reason other c = λ files is. c (bytes_of files)

  comes : (r : Result X Refusal) → Comes view step r → Reads view told before now step r
  comes (Ok x) c = λ files is. c (bytes_of files)
  comes (Err e) c = reason e c

-- the first step answers, and what comes after it is what the second says
after_reading : {X A B : Type 0} (view : X → B) (told : Option (List File)) (before mid now : ℕ) (first : Step A) (next : A → Step B) (x : A) (r : Result X Refusal) → before ≤ mid → Known told first (Ok x) → Reads view told mid now (next x) r → Reads view told before now (followed_by first next) r
after_reading view told before mid now first next x (Ok y) le known later = answered told first next x (Ok (view y)) known later
after_reading view told before mid now first next x (Err e) le known later = refused_later told first next before mid now x e le known later

module _ {X A : Type 0} (view : X → A) (step : Step A) where
  -- of the words nothing is refused
  not_words : (r : Result X Refusal) → Comes view step r → IfErr r (λ e. e ≢ Words)
  not_words (Ok x) c = tt
  not_words (Err Words) c = absurd c
  not_words (Err other) c = λ is. cc

  -- no file is to blame
  blames : (which : Which) (r : Result X Refusal) → Comes view step r → IfErr r (Blames which)
  blames which (Ok x) c = tt
  blames which (Err (Faulty w fault.Unread)) c = absurd c
  blames which (Err other) c = tt

module _ {B X A : Type 0} (bytes_of_it : B → List ℕ) (view : X → A) {F : Type 0} (told : F → Option (List File)) (faults : F → ℕ) (old new : F) (which : Which) (name : List ℕ) (next : List ℕ → Step A) where
  -- the file was not read
  pub bytes_refused : (e : Refusal) → ReadsFile bytes_of_it told faults old new which (text_in which name) (Err e) → ReadsFile view told faults old new which (followed_by (text_in which name) next) (Err e)
  bytes_refused e read = record {
    files = read.files;
    later = read.later;
    not_words = read.not_words;
    blames = read.blames;
    reads = refused (told old) (text_in which name) next (faults old) (faults new) e read.reads;
  }

  -- it was read
  pub bytes_read : (b : B) (r : Result X Refusal) → ReadsFile bytes_of_it told faults old new which (text_in which name) (Ok b) → Comes view (next (bytes_of_it b)) r → ReadsFile view told faults old new which (followed_by (text_in which name) next) r
  bytes_read b r read c = record {
    files = read.files;
    later = read.later;
    not_words = not_words view (next (bytes_of_it b)) r c;
    blames = blames view (next (bytes_of_it b)) which r c;
    reads = after_reading view (told old) (faults old) (faults new) (faults new) (text_in which name) next (bytes_of_it b) r read.later read.reads (comes view (told old) (faults new) (faults new) (next (bytes_of_it b)) r c);
  }
