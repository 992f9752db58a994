-- By the lemma.
use Rattle.lw_check.proofs.Accepting.{timely_accepted}
use Rattle.lw_check.proofs.laws.timely_netlists_are_accepted.Goals as goal

pub returns : goal.returns
returns c = timely_accepted
