-- What was written, and what it is a text of.
use Rattle.std.proofs.Common.{ℕ, Bool, List, Option, Result, Ok, Err, IfOk}
use Rattle.lw_io.specs.declared.file.File.{File}
use Rattle.lw_area.specs.declared.outcome.Answer.{Answer}
use Rattle.lw_area.specs.declared.outcome.Ending.{Ending}
use Rattle.lw_area.specs.declared.outcome.Ending.TheVariants.{Done, Mapped, WriteFault, Refused}
use Rattle.lw_area.specs.declared.refusal.Refusal.{Refusal}
use Rattle.lw_area.specs.declared.sources.Sources.{Sources}
use Rattle.lw_area.specs.Outcomes.{CanBeWritten, Gives, IsTextFor, Meets, WritesPage, WritesText}
use Rattle.lw_area.specs.Words.{Settings, Task, checking, mapping, usage, version}

-- what is given can be written
pub writable : (settings : Settings) (s : Sources) (r : Result Answer Refusal) → Gives settings s r → IfOk r CanBeWritten
writable settings s (Ok a) gives = gives.1
writable settings s (Err e) gives = tt

module _ {O : Type 0} (told : Option (List File)) (before now : ℕ) (taken : O → Option (List ℕ)) (is_finished : O → Bool) (faults : O → ℕ) (old new : O) where
  -- a page was written, or a prefix of it
  pub usage_served : (text : List ℕ) (e : Ending) → IsTextFor told usage text → WritesPage taken is_finished faults old new text e → Meets told before now taken is_finished faults old new usage e
  usage_served text Done is written = (text, is, written)
  usage_served text WriteFault is written = (text, is, written)
  usage_served text (Mapped notes) is written = absurd written
  usage_served text (Refused r) is written = absurd written

  pub version_served : (text : List ℕ) (e : Ending) → IsTextFor told version text → WritesPage taken is_finished faults old new text e → Meets told before now taken is_finished faults old new version e
  version_served text Done is written = (text, is, written)
  version_served text WriteFault is written = (text, is, written)
  version_served text (Mapped notes) is written = absurd written
  version_served text (Refused r) is written = absurd written

  -- a yes was written, or a prefix of it
  pub yes_served : (task : Task) (mapped : List ℕ) (text : List ℕ) (e : Ending) → IsTextFor told (checking task mapped) text → WritesPage taken is_finished faults old new text e → Meets told before now taken is_finished faults old new (checking task mapped) e
  yes_served task mapped text Done is written = (text, is, written)
  yes_served task mapped text WriteFault is written = (text, is, written)
  yes_served task mapped text (Mapped notes) is written = absurd written
  yes_served task mapped text (Refused r) is written = absurd written

  -- the text of a netlist was written, or a prefix of it
  pub text_served : (task : Task) (text : List ℕ) (e : Ending) → IsTextFor told (mapping task) text → WritesText taken is_finished faults old new text e → Meets told before now taken is_finished faults old new (mapping task) e
  text_served task text Done is written = absurd written
  text_served task text WriteFault is written = (text, is, written)
  text_served task text (Mapped notes) is written = (text, is, written)
  text_served task text (Refused r) is written = absurd written
