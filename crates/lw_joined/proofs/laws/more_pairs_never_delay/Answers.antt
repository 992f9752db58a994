-- By the lemma.
use Rattle.lw_joined.proofs.Pairs.{no_earlier}
use Rattle.lw_joined.proofs.laws.more_pairs_never_delay.Goals as goal

pub returns : goal.returns
returns c = λ mode width signals others pats timing f more. no_earlier mode width signals others more pats timing f
