-- By the lemma.
use Rattle.lw_laws.proofs.ReductionOnce.{reduction_once}
use Rattle.lw_laws.proofs.graphs.reductions_are_one.Goals as goal

pub returns : goal.returns
returns c = reduction_once
