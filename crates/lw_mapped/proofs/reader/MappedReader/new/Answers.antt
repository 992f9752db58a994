use Rattle.lw_blif_text.proofs.StandingFor.{stands-new}
use Rattle.lw_mapped.specs.declared.parts.Parts.{Parts}
use Rattle.lw_mapped.specs.LineFaults.{line_fault, ends_on}
use Rattle.lw_mapped.specs.Standing.{KeepsLines}
use Rattle.lw_mapped.proofs.reader.MappedReader.new.Goals as goal

pub returns : goal.returns
returns c = λ cells. stands-new ends_on (line_fault cells) (λ (kept : Parts). KeepsLines kept cells) _ (c.new.ensures cells)
