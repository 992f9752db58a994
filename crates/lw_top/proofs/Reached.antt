-- Which file was not read, and which were read before it.
use Rattle.std.proofs.Common.{◌≡◌, ℕ, List, Option, Some, None, refl, arith}
use Rattle.lw_io.specs.declared.file.File.{File}
use Rattle.lw_io.specs.Files.{bytes_of}
use Rattle.lw_files.specs.declared.fault.FileFault.TheVariants as fault
use Rattle.lw_top.specs.declared.refusal.Refusal.{Refusal}
use Rattle.lw_top.specs.declared.refusal.Refusal.TheVariants.{Words, Faulty}
use Rattle.lw_top.specs.declared.refusal.Which.{Which}
use Rattle.lw_top.specs.declared.outcome.Outcome.{Outcome}
use Rattle.lw_top.specs.declared.outcome.Outcome.TheVariants.{Done, WriteFault, Refused}
use Rattle.lw_top.specs.Words.{Command}
use Rattle.lw_top.specs.Answers.{IsFileOf, IsReached}
use Rattle.lw_top.specs.Outcome.{IsReachedBy, outcome_status}
use Rattle.lw_top.specs.Telling.{outcome_line, refusal_line}

-- the file that the line names
abbrev pub IsBlamed : Option (List File) → Option Command → (List ℕ → Type 0) → Type 0
IsBlamed told command said = (c : Command) × (w : Which) × (command ≡ Some c) × IsFileOf c w × ((files : List File) → told ≡ Some files → IsReached c w (bytes_of files)) × said (refusal_line (Some c) (Faulty w fault.Unread))

module _ (told : Option (List File)) (said : List ℕ → Type 0) where
  blamed_refusal : (r : Refusal) (command : Option Command) → outcome_status (Refused r) ≡ 2 → (command ≡ None → ◌≡◌ {A = Outcome} (Refused r) (Refused Words)) → IsReachedBy told command (Refused r) → said (outcome_line command (Refused r)) → IsBlamed told command said
  blamed_refusal (Faulty w fault.Unread) None e words reached line = let is = words refl in cc
  blamed_refusal (Faulty w fault.Unread) (Some c) e words reached line = (c, w, refl, reached.0, reached.1, line)
  blamed_refusal other command e words reached line = absurd (omega (arith, e))

  pub blamed : (o : Outcome) (command : Option Command) → outcome_status o ≡ 2 → (command ≡ None → o ≡ Refused Words) → IsReachedBy told command o → said (outcome_line command o) → IsBlamed told command said
  blamed Done command e words reached line = absurd (omega (arith, e))
  blamed WriteFault command e words reached line = absurd (omega (arith, e))
  blamed (Refused r) command e words reached line = blamed_refusal r command e words reached line
