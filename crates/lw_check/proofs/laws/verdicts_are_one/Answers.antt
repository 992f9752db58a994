-- By the lemma.
use Rattle.lw_check.proofs.Agreeing.{verdicts_agree}
use Rattle.lw_check.proofs.laws.verdicts_are_one.Goals as goal

pub returns : goal.returns
returns c = verdicts_agree
