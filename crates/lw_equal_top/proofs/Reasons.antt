-- Why a comparison is refused, and what it comes to.
use Rattle.std.proofs.Common.{inl, inr, ℕ, ◌≡◌, ◌≤◌, ◌<◌, ◌+◌, ◌∙◌, Bool, List, [], ◌∷◌, ◌++◌, length, map, take, get_or, slice_get, option_map, Option, Some, None, Ok, Err, refl, ap, sym, subst, arith}
use Rattle.std.specs.Prelude.{is_some}
use Rattle.std.proofs.lemmas.List.{length-map, take_more}
use Rattle.std.proofs.lemmas.Option.{get_or_from_slice_get, slice_get-get_or, slice_get-map}
use Rattle.std.proofs.lemmas.Slice.Zip.{all_zipped_more}
use Rattle.lw_io.specs.declared.file.File.{File}
use Rattle.lw_io.specs.Files.{bytes_of}
use Rattle.lw_genlib.specs.Cells.{CellParts}
use Rattle.lw_files.specs.declared.fault.FileFault.{FileFault}
use Rattle.lw_files.specs.declared.fault.FileFault.TheVariants as fault
use Rattle.lw_files.specs.Reading as file
use Rattle.lw_files.specs.Sources.{FileStep}
use Rattle.lw_files.specs.Steps.{Files}
use Rattle.lw_equal.specs.declared.answer.Answer.{Answer}
use Rattle.lw_equal_top.specs.declared.source.Source.{Source}
use Rattle.lw_equal_top.specs.declared.fault.Refusal.{Refusal}
use Rattle.lw_equal_top.specs.declared.fault.Refusal.TheVariants.{Library, File as FileAt, Ports, Memory}
use Rattle.lw_equal_top.specs.Compared.{ComesTo, IsAnswerFor}
use Rattle.lw_equal_top.specs.Outcomes.{HasReason, IsResult}
use Rattle.lw_equal_top.specs.Reading.{CellsRefused, SourcesRefused}
use Rattle.lw_equal_top.specs.Sources.{AreRead, ReadsCells, ReadsSource}
use Rattle.lw_equal_top.specs.Statuses.{file_refusal, library_refusal}
use Rattle.lw_equal_top.specs.Words.{Comparison}

-- a reason to refuse a file is one from an earlier moment on
pub sooner : {A : Type 0} (told : Option (List File)) (before mid now : ℕ) (step : FileStep A) (why : FileFault) → before ≤ mid → file.HasReason told mid now step why → file.HasReason told before now step why
sooner told before mid now step fault.Unread le (inl rose) = inl (omega (arith, le, rose))
sooner told before mid now step fault.Unread le (inr found) = inr found
sooner told before mid now step fault.Memory le is = tt
sooner told before mid now step other le is = is

-- the library is refused
pub cells_refused : (told : Option (List File)) (before now : ℕ) (word : Option (List ℕ)) (why : FileFault) → file.HasReason told before now (ReadsCells word) why → CellsRefused told before now word (library_refusal why)
cells_refused told before now word fault.Memory is = tt
cells_refused told before now word other is = is

-- Words that name files, one after another.
module _ {S : Type 0} (bytes : S → List ℕ) (words : List S) (i : ℕ) (d : S) (within : i < length words) where
  abbrev names : List (List ℕ)
  names = map bytes words

  abbrev name : List ℕ
  name = bytes (get_or words i d)

  name_at : slice_get names i ≡ Some name
  name_at = slice_get-map bytes words i ∙ ap (option_map bytes) (slice_get-get_or words i d within)

  -- one more is read
  pub one_more_read : (known : Bool) (cells : List CellParts) (files : Files) (sources : List Source) (source : Source) → AreRead known cells (take i names) files sources → ReadsSource known cells name files (Ok source) → AreRead known cells (take (i + 1) names) files (sources ++ source ∷ [])
  one_more_read known cells files sources source are is =
      let long = length-map words bytes in
      let here : get_or names i name ≡ name = get_or_from_slice_get names i name name name_at in
      let more : take (i + 1) names ≡ take i names ++ name ∷ [] = take_more names i name (omega (arith, within, long)) ∙ ap (λ n. take i names ++ n ∷ []) here in
      subst (λ ns. AreRead known cells ns files (sources ++ source ∷ [])) (sym more)
      (all_zipped_more (λ n s. ReadsSource known cells n files (Ok s)) (take i names) sources name source are is)

  -- one is refused
  pub one_refused : (told told' : Option (List File)) (before mid now : ℕ) (known : Bool) (cells : List CellParts) (sources : List Source) (why : FileFault) → told' ≡ told → before ≤ mid → ((files : List File) → told ≡ Some files → AreRead known cells (take i names) (bytes_of files) sources) → file.HasReason told' mid now (ReadsSource known cells name) why → SourcesRefused told before now known cells names (file_refusal i why)
  one_refused told told' before mid now known cells sources fault.Memory same le are is = tt
  one_refused told told' before mid now known cells sources other same le are is =
      (name, record { at = name_at; earlier = λ files known. (sources, are files known) }, subst (λ t. file.HasReason t before now (ReadsSource known cells name) other) same (sooner told' before mid now (ReadsSource known cells name) other le is))

-- What a comparison comes to.

pub as_known : {A B : Type 0} (f : A → B) (o : Option A) → is_some (option_map f o) ≡ is_some o
as_known f None = refl
as_known f (Some x) = refl

module _ (told : Option (List File)) (before now : ℕ) (c : Comparison) where
  pub no_cells : (why : Refusal) → CellsRefused told before now c.library why → HasReason told before now c why
  no_cells (Library f) is = is
  no_cells (FileAt place f) is = absurd is
  no_cells (Ports p) is = absurd is
  no_cells Memory is = tt

  module _ (cells : List CellParts) (known : file.Known told (ReadsCells c.library) (Ok cells)) where
    pub no_source : (told' : Option (List File)) (mid : ℕ) (why : Refusal) → told' ≡ told → before ≤ mid → SourcesRefused told' mid now (is_some c.library) cells c.files why → HasReason told before now c why
    no_source told' mid (Library f) same le is = absurd is
    no_source told' mid (Ports p) same le is = absurd is
    no_source told' mid Memory same le is = tt
    no_source told' mid (FileAt place f) same le (word, at, reason) = record {
      cells = cells;
      cells_are = known;
      reason = subst (λ t. SourcesRefused t before now (is_some c.library) cells c.files (FileAt place f)) same (word, at, sooner told' before mid now (ReadsSource (is_some c.library) cells word) f le reason);
    }

    module _ (sources : List Source) (read : (files : List File) → told ≡ Some files → AreRead (is_some c.library) cells c.files (bytes_of files) sources) where
      pub no_answer : (why : Refusal) → ComesTo cells sources (Err why) → HasReason told before now c why
      no_answer (Library f) is = absurd is
      no_answer (FileAt place f) is = absurd is
      no_answer Memory is = tt
      no_answer (Ports p) is = record {
        cells = cells;
        sources = sources;
        said = λ files are. record { cells_are = known files are; sources_are = read files are };
        lacking = is;
      }

      pub an_answer : (answer : Answer) → IsAnswerFor cells sources answer → IsResult told c sources answer
      an_answer answer is = record {
        cells = cells;
        said = λ files are. record { cells_are = known files are; sources_are = read files are };
        right = is;
      }
