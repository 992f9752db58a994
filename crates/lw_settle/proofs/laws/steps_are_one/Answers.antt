-- By the lemma.
use Rattle.lw_settle.proofs.Steps.{counts_once}
use Rattle.lw_settle.proofs.laws.steps_are_one.Goals as goal

pub returns : goal.returns
returns c = counts_once
