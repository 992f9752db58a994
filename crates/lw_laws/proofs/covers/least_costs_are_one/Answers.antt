-- By the lemma.
use Rattle.lw_laws.proofs.NetlistOnce.{least_cover_once}
use Rattle.lw_laws.proofs.covers.least_costs_are_one.Goals as goal

pub returns : goal.returns
returns c = least_cover_once
