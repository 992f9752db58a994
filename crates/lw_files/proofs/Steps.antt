-- One step after another, over files that may be known.
use Rattle.std.proofs.Common.{◌≡◌, inl, inr, ℕ, ◌≤◌, List, Option, Result, Ok, Err, refl, subst, arith}
use Rattle.lw_io.specs.declared.file.File.{File}
use Rattle.lw_files.specs.declared.fault.FileFault.{FileFault}
use Rattle.lw_files.specs.declared.fault.FileFault.TheVariants.{Unread, Memory}
use Rattle.lw_files.specs.Steps.{Files, StepTo, followed_by}
use Rattle.lw_files.specs.Sources.{FileStep}
use Rattle.lw_files.specs.Reading.{Known, HasReason, Reads}

module _ {E A B : Type 0} (told : Option (List File)) (first : StepTo E A) (next : A → StepTo E B) where
  -- the first step refuses
  pub stop : (e : E) → Known told first (Err e) → Known told (followed_by first next) (Err e)
  stop e known files is = inr (e, known files is, refl)

  -- a step after the first answers
  pub answered : (x : A) (r : Result B E) → Known told first (Ok x) → Known told (next x) r → Known told (followed_by first next) r
  answered x r before after files is = inl (x, before files is, after files is)

-- Two steps and then a last one.
module _ {E A B T : Type 0} (first : StepTo E A) (second : StepTo E B) (last : A → B → StepTo E T) (files : Files) where
  abbrev pub Last : Result T E → Type 0
  Last r = followed_by first (λ a. followed_by second (λ b. last a b)) files r

  -- the two steps answered, and the last comes to this
  pub record IsLast (r : Result T E) : Type 0 where
    pub a : A
    pub b : B
    pub one : first files (Ok a)
    pub two : second files (Ok b)
    pub comes : last a b files r

  pub last_ok : (x : T) → Last (Ok x) → IsLast (Ok x)
  last_ok x (inl (a, one, inl (b, two, comes))) = record { a = a; b = b; one = one; two = two; comes = comes }
  last_ok x (inl (a, one, inr (e, refused, is))) = cc
  last_ok x (inr (e, refused, is)) = cc

  -- a refusal that neither of the two gives
  pub last_err : (c : E) → (first files (Err c) → ⊥) → (second files (Err c) → ⊥) → Last (Err c) → IsLast (Err c)
  last_err c not_one not_two (inl (a, one, inl (b, two, comes))) = record { a = a; b = b; one = one; two = two; comes = comes }
  last_err c not_one not_two (inl (a, one, inr (e, refused, is))) = let same : e ≡ c = cc in absurd (not_two (subst (λ (f : E). second files (Err f)) same refused))
  last_err c not_one not_two (inr (e, refused, is)) = let same : e ≡ c = cc in absurd (not_one (subst (λ (f : E). first files (Err f)) same refused))

module _ {A B : Type 0} (told : Option (List File)) (first : FileStep A) (next : A → FileStep B) where
  pub refused : (before now : ℕ) (e : FileFault) → HasReason told before now first e → HasReason told before now (followed_by first next) e
  refused before now Unread (inl rose) = inl rose
  refused before now Unread (inr found) = inr (found.0, found.1, inr (Unread, found.2, refl))
  refused before now Memory known = tt
  refused before now other known = stop told first next other known

  -- a step after the first refuses
  refused_later : (before mid now : ℕ) (x : A) (e : FileFault) → before ≤ mid → Known told first (Ok x) → HasReason told mid now (next x) e → HasReason told before now (followed_by first next) e
  refused_later before mid now x Unread le known (inl rose) = inl (omega arith)
  refused_later before mid now x Unread le known (inr found) = inr (found.0, found.1, inl (x, known found.0 found.1, found.2))
  refused_later before mid now x Memory le known later = tt
  refused_later before mid now x other le known later = answered told first next x (Err other) known later

-- the first step answers, and what comes after it is what the second says
pub after_reading : {X A B : Type 0} (view : X → B) (told : Option (List File)) (before mid now : ℕ) (first : FileStep A) (next : A → FileStep B) (x : A) (r : Result X FileFault) → before ≤ mid → Known told first (Ok x) → Reads view told mid now (next x) r → Reads view told before now (followed_by first next) r
after_reading view told before mid now first next x (Ok y) le known later = answered told first next x (Ok (view y)) known later
after_reading view told before mid now first next x (Err e) le known later = refused_later told first next before mid now x e le known later
