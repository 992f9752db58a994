-- By the lemma.
use Rattle.lw_laws.proofs.Delays.{delay_cost_is}
use Rattle.lw_laws.proofs.covers.delay_costs_are_costs.Goals as goal

pub returns : goal.returns
returns c = delay_cost_is
