-- By the lemma.
use Rattle.lw_settle.proofs.Agreeing.{settled_least}
use Rattle.lw_settle.proofs.laws.settled_marks_are_least.Goals as goal

pub returns : goal.returns
returns c = settled_least
