-- By the lemma.
use Rattle.lw_laws.proofs.NetlistOf.{least_costs_bound}
use Rattle.lw_laws.proofs.covers.least_costs_are_a_potential.Goals as goal

pub returns : goal.returns
returns c = least_costs_bound
