use Rattle.lw_check.specs.Least.{IsLeastOf}
use Rattle.lw_check.proofs.Inputs.{IsLeafCostBefore}
use Rattle.lw_check.proofs.labels.least_input.Given as goal

abbrev pub invariant-loop-input : goal.invariant-loop-input
invariant-loop-input g l = IsLeastOf (IsLeafCostBefore l.graph (g.C.Cost.costs l.cost) l.class.0 l.input) l.least
