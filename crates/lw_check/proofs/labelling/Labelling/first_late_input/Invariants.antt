use Rattle.std.proofs.Common.{option_map}
use Rattle.lw_laws.specs.Rounds.{labels_in}
use Rattle.lw_check.specs.Claims.{class_number}
use Rattle.lw_check.specs.Least.{IsLeastOf}
use Rattle.lw_check.proofs.Inputs.{IsLateBefore}
use Rattle.lw_check.proofs.labelling.Labelling.first_late_input.Given as goal

abbrev pub invariant-loop-input : goal.invariant-loop-input
invariant-loop-input g l = IsLeastOf (IsLateBefore l.self.graph.now (g.C.Cost.costs l.self.by.cost.now) (labels_in l.self.labels.now) l.input) (option_map class_number l.first)
