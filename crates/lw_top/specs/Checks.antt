-- What a check of a mapped netlist comes to.
use Rattle.std.specs.Prelude.{ℕ, ◌≡◌, List, [], ◌∷◌, ◌++◌, Ok, Err, codes}
use Rattle.lw_genlib.specs.Cells.{CellParts}
use Rattle.lw_blif.specs.declared.parsed.Parsed.{Parsed}
use Rattle.lw_mapped.specs.declared.closing.Mapped.{Mapped}
use Rattle.lw_check.specs.declared.verdict.Verdict.TheVariants as verdict
use Rattle.lw_map.specs.Options.{Options}
pub use Rattle.lw_map.specs.Checks.{HasVerdict}
use Rattle.lw_top.specs.declared.refusal.Refusal.TheVariants.{No}
use Rattle.lw_top.specs.Steps.{Step}
use Rattle.lw_top.specs.Maps.{LacksGraph}

abbrev pub yes_text : List ℕ
yes_text = codes "yes" ++ 10 ∷ []

-- What the cells, the model and the netlist come to: a yes, or why it is no, or why there is no verdict, whatever the
-- files.
abbrev pub Checks : Options → List CellParts → Parsed → Mapped → Step (List ℕ)
Checks options cells model mapped files (Ok text) =
    (text ≡ yes_text) × HasVerdict options cells model mapped verdict.Yes
Checks options cells model mapped files (Err (No reason)) = HasVerdict options cells model mapped (verdict.No reason)
Checks options cells model mapped files (Err other) = LacksGraph options model.network other
