-- By the lemma.
use Rattle.lw_laws.proofs.NetlistValues.{some_arrivals}
use Rattle.lw_laws.proofs.mappings.some_arrivals_are_right.Goals as goal

pub returns : goal.returns
returns c = some_arrivals
