use Rattle.lw_genlib.proofs.Fronts.{spells_read}
use Rattle.lw_genlib.proofs.laws.what_is_read_is_spelled.Goals as goal

pub returns : goal.returns
returns c = spells_read
