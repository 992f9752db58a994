-- Words that ask for a certificate ask for the least time at each output.
use Rattle.std.proofs.Common.{◌≡◌, ◌∙◌, ℕ, zero, suc, true, false, Bool, List, [], ◌∷◌, ◌-◌, length, take, Option, Some, None, Result, Ok, Err, slice_get, if◌then◌else◌, refl, ap, sym}
use Rattle.std.specs.Prelude.{codes}
use Rattle.std.specs.Str.{bytes_eq}
use Rattle.lw_top.specs.Words.{is_file_word}
use Rattle.lw_area.specs.declared.words.Deadline.{Deadline}
use Rattle.lw_area.specs.declared.words.Deadline.TheVariants.{Each}
use Rattle.lw_area.specs.declared.words.Wrong.TheVariants.{Certified, Late}
use Rattle.lw_area.specs.Promises.{AsksFor}
use Rattle.lw_area.specs.Words.{Asked, Begun, Settings, Task, WrongWord, checked_from, checking, checking_first, checking_of, files_behind, files_of, files_unless, first_dashed, is_each, mapping, mapping_of, no_option, only_word, option_of, options_of, refused, task_of, then_options, usage, version}

each_is : (deadline : Deadline) → is_each deadline ≡ true → deadline ≡ Each
each_is Each e = refl
each_is other e = cc

-- the files leave the settings
files_keep : (s : Settings) (words : List (List ℕ)) (task : Task) → ◌≡◌ {A = Result Task WrongWord} (files_of s words) (Ok task) → task.settings ≡ s
files_keep s [] task e = cc
files_keep s (library ∷ []) task e = cc
files_keep s (library ∷ network ∷ more) task e = by_word (first_dashed (network ∷ more)) e
  where
    by_word : (o : Option (List ℕ)) → ◌≡◌ {A = Result Task WrongWord} (files_unless s library network more o) (Ok task) → task.settings ≡ s
    by_word None e = let same : record { settings = s; library = library; network = network; more = more } ≡ task = cc in ap (λ (t : Task). t.settings) (sym same)
    by_word (Some word) e = cc

mapping_keeps : (r : Result Task WrongWord) (task : Task) → ◌≡◌ {A = Result Asked WrongWord} (mapping_of r) (Ok (mapping task)) → r ≡ Ok task
mapping_keeps (Ok other) task e = let same : other ≡ task = cc in ap Ok same
mapping_keeps (Err wrong) task e = cc

-- what is checked is no mapping
checked_maps : (mapped : List ℕ) (r : Result Task WrongWord) (task : Task) → ◌≡◌ {A = Result Asked WrongWord} (checking_of mapped r) (Ok (mapping task)) → ⊥
checked_maps mapped (Err wrong) task e = cc
checked_maps mapped (Ok other) task e = by_word (is_file_word mapped) e
  where
    by_word : (t : Bool) → ◌≡◌ {A = Result Asked WrongWord} (if t then Ok (checking other mapped) else refused mapped Late) (Ok (mapping task)) → ⊥
    by_word true e = cc
    by_word false e = cc

checked_none : (s : Settings) (words : List (List ℕ)) (o : Option (List ℕ)) (task : Task) → ◌≡◌ {A = Result Asked WrongWord} (checked_from s words o) (Ok (mapping task)) → ⊥
checked_none s words None task e = cc
checked_none s words (Some mapped) task e = checked_maps mapped (files_of s (take (length words - 1) words)) task e

module _ (task : Task) (certified : task.settings.certified ≡ true) where
  task_each : (s : Settings) (words : List (List ℕ)) → task_of s words ≡ Ok (mapping task) → task.settings.deadline ≡ Each
  task_each s words e = by_flags s.certified (is_each s.deadline) refl refl e
    where
      own : ◌≡◌ {A = Result Asked WrongWord} (mapping_of (files_of s words)) (Ok (mapping task)) → task.settings ≡ s
      own e = files_keep s words task (mapping_keeps (files_of s words) task e)

      by_flags : (b d : Bool) → s.certified ≡ b → is_each s.deadline ≡ d → ◌≡◌ {A = Result Asked WrongWord} (if b then (if d then mapping_of (files_of s words) else refused (codes "-c") Certified) else mapping_of (files_of s words)) (Ok (mapping task)) → task.settings.deadline ≡ Each
      by_flags true true asked each e = ap (λ (t : Settings). t.deadline) (own e) ∙ each_is s.deadline each
      by_flags true false asked each e = cc
      by_flags false d asked each e =
          let same = ap (λ (t : Settings). t.certified) (own e) in
          let both : false ≡ true = sym asked ∙ (sym same ∙ certified) in
          cc

  behind_each : (checked : Bool) (s : Settings) (words : List (List ℕ)) → files_behind checked s words ≡ Ok (mapping task) → task.settings.deadline ≡ Each
  behind_each false s words e = task_each s words e
  behind_each true s words e = absurd (checked_none s words (slice_get words (length words - 1)) task e)

  options_each : (n : ℕ) (checked : Bool) (s : Settings) (words : List (List ℕ)) → options_of n checked s words ≡ Ok (mapping task) → task.settings.deadline ≡ Each
  options_each n checked s [] e = by_count n e
    where
      by_count : (n : ℕ) → options_of n checked s [] ≡ Ok (mapping task) → task.settings.deadline ≡ Each
      by_count zero e = behind_each checked s [] e
      by_count (suc n) e = behind_each checked s [] e
  options_each zero checked s (word ∷ words) e = behind_each checked s (word ∷ words) e
  options_each (suc n) checked s (word ∷ words) e = by_word (is_file_word word) (option_of checked s word words) (λ begun f. options_each n checked begun.settings begun.rest f) e
    where
      by_word : (t : Bool) (next : Result Begun WrongWord) → ((begun : Begun) → options_of n checked begun.settings begun.rest ≡ Ok (mapping task) → task.settings.deadline ≡ Each) → ◌≡◌ {A = Result Asked WrongWord} (if t then files_behind checked s (word ∷ words) else then_options (options_of n checked) next) (Ok (mapping task)) → task.settings.deadline ≡ Each
      by_word true next rest e = behind_each checked s (word ∷ words) e
      by_word false (Ok begun) rest e = rest begun e
      by_word false (Err wrong) rest e = cc

  first_each : (words : List (List ℕ)) → checking_first words ≡ Ok (mapping task) → task.settings.deadline ≡ Each
  first_each [] e = options_each 0 false no_option [] e
  first_each (word ∷ words) e = by_word (bytes_eq word (codes "-k")) e
    where
      by_word : (t : Bool) → ◌≡◌ {A = Result Asked WrongWord} (if t then options_of (length words) true no_option words else options_of (length (word ∷ words)) false no_option (word ∷ words)) (Ok (mapping task)) → task.settings.deadline ≡ Each
      by_word true e = options_each (length words) true no_option words e
      by_word false e = options_each (length (word ∷ words)) false no_option (word ∷ words) e

  pub certified_each : (words : List (List ℕ)) → AsksFor words task → task.settings.deadline ≡ Each
  certified_each words asks = by_words (only_word words (codes "-h")) (only_word words (codes "-v")) asks
    where
      by_words : (help named : Bool) → ◌≡◌ {A = Result Asked WrongWord} (if help then Ok usage else (if named then Ok version else checking_first words)) (Ok (mapping task)) → task.settings.deadline ≡ Each
      by_words true named e = cc
      by_words false true e = cc
      by_words false false e = first_each words e
