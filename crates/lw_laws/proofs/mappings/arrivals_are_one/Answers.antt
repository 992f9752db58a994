-- By the lemma.
use Rattle.lw_laws.proofs.NetlistValues.{arrivals_once}
use Rattle.lw_laws.proofs.mappings.arrivals_are_one.Goals as goal

pub returns : goal.returns
returns c = arrivals_once
