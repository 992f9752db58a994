use Rattle.lw_blif.specs.Keeping.{Keeps}
use Rattle.lw_blif.specs.LineFaults.{line_fault, ends_on}
use Rattle.lw_blif_text.proofs.StandingFor.{stands-new}
use Rattle.lw_blif.proofs.StandingFor.{some-new}
use Rattle.lw_blif.proofs.reader.Reader.new.Goals as goal

pub invariant_of-result : goal.invariant_of-result
invariant_of-result c = record { kept = some-new c.new.result c.new.ensures }

pub returns : goal.returns
returns c = stands-new ends_on line_fault Keeps _ c.new.ensures
