-- By the lemma.
use Rattle.lw_settle.proofs.Agreeing.{least_marks_once}
use Rattle.lw_settle.proofs.laws.least_marks_are_one.Goals as goal

pub returns : goal.returns
returns c = least_marks_once
