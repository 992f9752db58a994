use Rattle.std.proofs.Common.{refl}
use Rattle.lw_genlib.proofs.Standings.{stands-new}
use Rattle.lw_genlib.proofs.reader.LibReader.new.Goals as goal

pub returns : goal.returns
returns c = record { at = stands-new _ c.no_cells.ensures refl }
