-- By the lemma.
use Rattle.lw_settle.proofs.Agreeing.{leaf_costs}
use Rattle.lw_settle.proofs.laws.leaf_costs_are_least.Goals as goal

pub returns : goal.returns
returns c = leaf_costs
