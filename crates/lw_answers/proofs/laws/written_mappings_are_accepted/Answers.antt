use Rattle.lw_answers.proofs.Accepted.{written_accepted}
use Rattle.lw_answers.proofs.laws.written_mappings_are_accepted.Goals as goal

pub returns : goal.returns
returns c = written_accepted
