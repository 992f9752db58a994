-- The line of each outcome.
use Rattle.std.specs.Prelude.{◌⊎◌, ℕ, List, [], ◌∷◌, ◌++◌, Option, codes}
use Rattle.std.specs.Io.KnownBytes.{Appends}
use Rattle.lw_io.specs.Causes.{Rose}
use Rattle.lw_io.specs.Moves.{AppendsPrefix}
use Rattle.lw_files.specs.Faults.{broken_text, fault_text}
use Rattle.lw_top.specs.declared.refusal.Refusal.{Refusal}
use Rattle.lw_top.specs.declared.refusal.Refusal.TheVariants.{Words, Faulty, Verilog, Vector, Forms, Splits, NoCover}
use Rattle.lw_top.specs.declared.refusal.Refusal.TheVariants.{Points, No, NoVerilog, Memory}
use Rattle.lw_top.specs.declared.refusal.Which.TheVariants as which
use Rattle.lw_top.specs.Words.{Command, file_word}
use Rattle.lw_top.specs.Reasons.{reason_text, no_verilog_text, verilog_kind_text}
use Rattle.lw_top.specs.declared.outcome.Outcome.{Outcome}
use Rattle.lw_top.specs.declared.outcome.Outcome.TheVariants.{Done, WriteFault, Refused}

-- a line was written, or a prefix of it where the stream failed
abbrev pub Told : {E : Type 0} → (E → Option (List ℕ)) → (E → ℕ) → E → E → List ℕ → Type 0
Told taken faults old new text =
    Appends (taken old) (taken new) text ⊎ (Rose (faults old) (faults new) × AppendsPrefix (taken old) (taken new) text)

abbrev pub usage_text : List ℕ
usage_text =
    codes "usage: map [-w K] [-i] [-c] LIB IN | check [-w K] [-i] LIB IN MAPPED | time LIB MAPPED | sim IN VECTORS | sim -g LIB MAPPED VECTORS | graph [-w K] [-i] IN | big SEED N LIB | trade [-w K] [-i] T LIB IN | lut L [-w K] [-i] IN | verilog LIB MAPPED | unverilog LIB VER"

abbrev pub refusal_text : Option Command → Refusal → List ℕ
refusal_text command Words = usage_text
refusal_text command (Faulty w fault) = fault_text (file_word command w) fault
refusal_text command (Verilog line kind) = broken_text (file_word command which.Mapped) line (verilog_kind_text kind)
refusal_text command (Vector line) = broken_text (file_word command which.Vectors) line (codes "bad vector")
refusal_text command Forms = codes "limit: more than 2097152 forms"
refusal_text command Splits = codes "limit: more than 16777216 splits"
refusal_text command (NoCover name) = codes "no cover for output " ++ name
refusal_text command Points = codes "limit: more than 8000000 points"
refusal_text command (No reason) = codes "no: " ++ reason_text reason
refusal_text command (NoVerilog why) = codes "no verilog: " ++ no_verilog_text why
refusal_text command Memory = codes "out of memory"

abbrev pub refusal_line : Option Command → Refusal → List ℕ
refusal_line command r = codes "lwmap: " ++ (refusal_text command r ++ 10 ∷ [])

abbrev pub outcome_line : Option Command → Outcome → List ℕ
outcome_line command Done = []
outcome_line command WriteFault = codes "lwmap: cannot write" ++ 10 ∷ []
outcome_line command (Refused r) = refusal_line command r
