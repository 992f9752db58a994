use Rattle.lw_area.proofs.Accepted.{written_accepted}
use Rattle.lw_area.proofs.laws.written_netlists_are_accepted.Goals as goal

pub returns : goal.returns
returns c = written_accepted
