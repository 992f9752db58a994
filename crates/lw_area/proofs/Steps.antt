-- One step after another, over files that may be known.
use Rattle.std.proofs.Common.{◌≡◌, inl, inr, ℕ, ◌≤◌, List, Option, Some, Result, Ok, Err, refl, ap, subst, arith}
use Rattle.lw_io.specs.declared.file.File.{File}
use Rattle.lw_io.specs.Files.{bytes_of}
use Rattle.lw_files.specs.declared.fault.FileFault.{FileFault}
use Rattle.lw_files.specs.declared.fault.FileFault.TheVariants.{Unread, Memory}
use Rattle.lw_files.specs.Reading as file
use Rattle.lw_files.specs.Sources.{FileStep, ReadsLibrary, ReadsModel}
use Rattle.lw_files.specs.Steps.{Files, followed_by}
use Rattle.lw_net.specs.Networks.{input_names}
use Rattle.lw_genlib.specs.Cells.{CellParts}
use Rattle.lw_blif.specs.declared.parsed.Parsed.{Parsed}
use Rattle.lw_map.specs.declared.fault.MapFault.TheVariants as map_fault
use Rattle.lw_area.specs.declared.outcome.Answer.{Answer}
use Rattle.lw_area.specs.declared.refusal.Refusal.{Refusal}
use Rattle.lw_area.specs.declared.refusal.Refusal.TheVariants.{Library, Network, Further, Mapped, Unmapped}
use Rattle.lw_area.specs.declared.sources.Further as sources
use Rattle.lw_area.specs.declared.sources.Sources.{Sources}
use Rattle.lw_area.specs.Answers.{Recovers}
use Rattle.lw_area.specs.Checks.{in_mapped}
use Rattle.lw_area.specs.Outcomes as outcome
use Rattle.lw_area.specs.Outcomes.{Gives, answer_text}
use Rattle.lw_area.specs.Sources.{ComesTo, HasReason, IsSourcesOf, ReadsAll, ReadsFurther, Step, in_further, in_library, in_network}
use Rattle.lw_area.specs.Words.{Task}

-- a reason of one step is one of another that refuses for it
module _ {A B : Type 0} (told : Option (List File)) (before mid now : ℕ) (s : Step A) (t : Step B) (le : before ≤ mid) (moves : (e : Refusal) (files : List File) → told ≡ Some files → s (bytes_of files) (Err e) → t (bytes_of files) (Err e)) where
  pub moved : (e : Refusal) → HasReason told mid now s e → HasReason told before now t e
  moved (Library Unread) (inl rose) = inl (omega arith)
  moved (Library Unread) (inr (files, known, is)) = inr (files, known, moves (Library Unread) files known is)
  moved (Network Unread) (inl rose) = inl (omega arith)
  moved (Network Unread) (inr (files, known, is)) = inr (files, known, moves (Network Unread) files known is)
  moved (Further place Unread) (inl rose) = inl (omega arith)
  moved (Further place Unread) (inr (files, known, is)) = inr (files, known, moves (Further place Unread) files known is)
  moved (Mapped Unread) (inl rose) = inl (omega arith)
  moved (Mapped Unread) (inr (files, known, is)) = inr (files, known, moves (Mapped Unread) files known is)
  moved (Library Memory) reason = tt
  moved (Network Memory) reason = tt
  moved (Further place Memory) reason = tt
  moved (Mapped Memory) reason = tt
  moved (Unmapped map_fault.Memory) reason = tt
  moved other reason = λ files known. moves other files known (reason files known)

module _ {A B : Type 0} (told : Option (List File)) (first : Step A) (next : A → Step B) where
  -- the first step refuses
  pub stops : (before now : ℕ) (e : Refusal) → HasReason told before now first e → HasReason told before now (followed_by first next) e
  stops before now e = moved told before before now first (followed_by first next) (omega arith) (λ f files known is. inr (f, is, refl)) e

  -- a step after the first comes to this
  pub then_comes : (before mid now : ℕ) (x : A) (r : Result B Refusal) → before ≤ mid → file.Known told first (Ok x) → ComesTo told mid now (next x) r → ComesTo told before now (followed_by first next) r
  then_comes before mid now x (Ok y) le has comes = λ files known. inl (x, has files known, comes files known)
  then_comes before mid now x (Err e) le has comes = moved told before mid now (next x) (followed_by first next) le (λ f files known is. inl (x, has files known, is)) e comes

-- what a call that reads a file says of it
module _ {A : Type 0} (told : Option (List File)) (before now : ℕ) (step : FileStep A) where
  pub library_reason : (fault : FileFault) → file.HasReason told before now step fault → HasReason told before now (in_library step) (Library fault)
  library_reason Unread reason = reason
  library_reason Memory reason = tt
  library_reason other reason = reason

  pub network_reason : (fault : FileFault) → file.HasReason told before now step fault → HasReason told before now (in_network step) (Network fault)
  network_reason Unread reason = reason
  network_reason Memory reason = tt
  network_reason other reason = reason

  pub further_reason : (place : ℕ) (fault : FileFault) → file.HasReason told before now step fault → HasReason told before now (in_further place step) (Further place fault)
  further_reason place Unread (inl rose) = inl rose
  further_reason place Unread (inr (files, known, is)) = inr (files, known, (refl, is))
  further_reason place Memory reason = tt
  further_reason place other reason = λ files known. (refl, reason files known)

  pub mapped_reason : (fault : FileFault) → file.HasReason told before now step fault → HasReason told before now (in_mapped step) (Mapped fault)
  mapped_reason Unread reason = reason
  mapped_reason Memory reason = tt
  mapped_reason other reason = reason

-- What follows when the sources were read.
module _ {T : Type 0} (task : Task) (next : List CellParts → Parsed → List sources.Further → Step T) (files : Files) where
  pub sources_then : (s : Sources) (r : Result T Refusal) → IsSourcesOf task files (Ok s) → next s.library s.model s.further.items files r → ReadsAll task next files r
  sources_then s r (inl (cells, one, inl (model, two, inl (further, three, (same_cells, same_model, same_further))))) comes =
      inl (
        cells,
        one,
        inl (
          model,
          two,
          inl (
            further,
            three,
            subst (λ (xs : List CellParts). next xs model further files r) same_cells
                (subst (λ (m : Parsed). next s.library m further files r) same_model
                (subst (λ (fs : List sources.Further). next s.library s.model fs files r) same_further comes)),
          ),
        ),
      )
  sources_then s r (inl (cells, one, inl (model, two, inr (e, three, same)))) comes = cc
  sources_then s r (inl (cells, one, inr (e, two, same))) comes = cc
  sources_then s r (inr (e, one, same)) comes = cc

  pub sources_refused : (e : Refusal) → IsSourcesOf task files (Err e) → ReadsAll task next files (Err e)
  sources_refused e (inl (cells, one, inl (model, two, inl (further, three, nothing)))) = absurd nothing
  sources_refused e (inl (cells, one, inl (model, two, inr (f, three, same)))) = let is : f ≡ e = cc in inl (cells, one, inl (model, two, inr (f, three, ap Err is)))
  sources_refused e (inl (cells, one, inr (f, two, same))) = let is : f ≡ e = cc in inl (cells, one, inr (f, two, ap Err is))
  sources_refused e (inr (f, one, same)) = let is : f ≡ e = cc in inr (f, one, ap Err is)

module _ {T : Type 0} (told : Option (List File)) (task : Task) (next : List CellParts → Parsed → List sources.Further → Step T) where
  pub refused_sources : (before now : ℕ) (e : Refusal) → HasReason told before now (IsSourcesOf task) e → HasReason told before now (ReadsAll task next) e
  refused_sources before now e = moved told before before now (IsSourcesOf task) (ReadsAll task next) (omega arith) (λ f files known is. sources_refused task next (bytes_of files) f is) e

  pub comes_after : (before mid now : ℕ) (s : Sources) → file.Known told (IsSourcesOf task) (Ok s) → before ≤ mid → (r : Result T Refusal) → ComesTo told mid now (next s.library s.model s.further.items) r → ComesTo told before now (ReadsAll task next) r
  comes_after before mid now s has le (Ok y) comes = λ files known. sources_then task next (bytes_of files) s (Ok y) (has files known) (comes files known)
  comes_after before mid now s has le (Err e) comes =
      moved told before mid now (next s.library s.model s.further.items) (ReadsAll task next) le (λ f files known is. sources_then task next (bytes_of files) s (Err f) (has files known) is) e comes

-- what the parts come to is what the task does
module _ (told : Option (List File)) (task : Task) (s : Sources) (has : file.Known told (IsSourcesOf task) (Ok s)) where
  pub comes_to : (before now : ℕ) (r : Result Answer Refusal) → Gives task.settings s r → outcome.ComesTo told before now task r
  comes_to before now (Ok a) gives = λ files known. sources_then task (Recovers task.settings) (bytes_of files) s (Ok (answer_text a)) (has files known) gives.0
  comes_to before now (Err (Unmapped map_fault.Memory)) gives = tt
  comes_to before now (Err (Unmapped fault)) gives = λ files known. sources_then task (Recovers task.settings) (bytes_of files) s (Err (Unmapped fault)) (has files known) gives
  comes_to before now (Err other) gives = absurd gives

-- Three steps and then a last one.
module _ {A B C T : Type 0} (first : Step A) (second : Step B) (third : B → Step C) (last : A → B → C → Step T) (files : Files) where
  abbrev pub Whole : Result T Refusal → Type 0
  Whole r = followed_by first (λ a. followed_by second (λ b. followed_by (third b) (λ c. last a b c))) files r

  -- the three steps answered, and the last comes to this
  pub record IsLast (r : Result T Refusal) : Type 0 where
    pub a : A
    pub b : B
    pub c : C
    pub one : first files (Ok a)
    pub two : second files (Ok b)
    pub three : third b files (Ok c)
    pub comes : last a b c files r

  -- none of the three refuses
  pub by_last : (r : Result T Refusal) → ((e : Refusal) → first files (Err e) → Err e ≡ r → ⊥) → ((e : Refusal) → second files (Err e) → Err e ≡ r → ⊥) → ((b : B) → second files (Ok b) → (e : Refusal) → third b files (Err e) → Err e ≡ r → ⊥) → Whole r → IsLast r
  by_last r not_one not_two not_three (inl (a, one, inl (b, two, inl (c, three, comes)))) = record { a = a; b = b; c = c; one = one; two = two; three = three; comes = comes }
  by_last r not_one not_two not_three (inl (a, one, inl (b, two, inr (e, refused, same)))) = absurd (not_three b two e refused same)
  by_last r not_one not_two not_three (inl (a, one, inr (e, refused, same))) = absurd (not_two e refused same)
  by_last r not_one not_two not_three (inr (e, refused, same)) = absurd (not_one e refused same)

  no_value : (e : Refusal) (x : T) → ◌≡◌ {A = Result T Refusal} (Err e) (Ok x) → ⊥
  no_value e x same = cc

  one_refusal : (d e : Refusal) → ◌≡◌ {A = Result T Refusal} (Err d) (Err e) → d ≡ e
  one_refusal d e same = cc

  pub last_ok : (x : T) → Whole (Ok x) → IsLast (Ok x)
  last_ok x whole = by_last (Ok x) (λ e refused same. no_value e x same) (λ e refused same. no_value e x same) (λ b two e refused same. no_value e x same) whole

  -- a refusal that none of the three gives
  pub last_err : (e : Refusal) → (first files (Err e) → ⊥) → (second files (Err e) → ⊥) → ((b : B) → third b files (Err e) → ⊥) → Whole (Err e) → IsLast (Err e)
  last_err e not_one not_two not_three whole =
      by_last (Err e) (λ d refused same. not_one (subst (λ (f : Refusal). first files (Err f)) (one_refusal d e same) refused)) (λ d refused same. not_two (subst (λ (f : Refusal). second files (Err f)) (one_refusal d e same) refused))
      (λ b two d refused same. not_three b (subst (λ (f : Refusal). third b files (Err f)) (one_refusal d e same) refused)) whole

-- the steps of a task that read its files
module _ (task : Task) where
  abbrev pub first : Step (List CellParts)
  first = in_library (ReadsLibrary task.library)

  abbrev pub second : Step Parsed
  second = in_network (ReadsModel task.network)

  abbrev pub third : Parsed → Step (List sources.Further)
  third model = ReadsFurther (input_names model.network) 0 task.more
