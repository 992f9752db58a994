-- One step after another, over files that may be known.
use Rattle.std.proofs.Common.{inl, inr, ℕ, ◌≤◌, List, Option, Ok, Err, refl, arith}
use Rattle.lw_io.specs.declared.file.File.{File}
use Rattle.lw_files.specs.declared.fault.FileFault.TheVariants as fault
use Rattle.lw_files.specs.Steps.{followed_by}
use Rattle.lw_files.specs.Reading.{Known}
use Rattle.lw_files.proofs.Steps.{stop, answered}
use Rattle.lw_top.specs.declared.refusal.Refusal.{Refusal}
use Rattle.lw_top.specs.declared.refusal.Refusal.TheVariants.{Faulty, Memory}
use Rattle.lw_top.specs.Steps.{Step}
use Rattle.lw_top.specs.Reading.{HasReason}

module _ {A B : Type 0} (told : Option (List File)) (first : Step A) (next : A → Step B) where
  pub refused : (before now : ℕ) (e : Refusal) → HasReason told before now first e → HasReason told before now (followed_by first next) e
  refused before now (Faulty w fault.Unread) (inl rose) = inl rose
  refused before now (Faulty w fault.Unread) (inr found) = inr (found.0, found.1, inr (Faulty w fault.Unread, found.2, refl))
  refused before now Memory known = tt
  refused before now other known = stop told first next other known

  -- a step after the first refuses
  pub refused_later : (before mid now : ℕ) (x : A) (e : Refusal) → before ≤ mid → Known told first (Ok x) → HasReason told mid now (next x) e → HasReason told before now (followed_by first next) e
  refused_later before mid now x (Faulty w fault.Unread) le known (inl rose) = inl (omega arith)
  refused_later before mid now x (Faulty w fault.Unread) le known (inr found) = inr (found.0, found.1, inl (x, known found.0 found.1, found.2))
  refused_later before mid now x Memory le known later = tt
  refused_later before mid now x other le known later = answered told first next x (Err other) known later
