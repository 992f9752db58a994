use Rattle.std.proofs.Common.{length}
use Rattle.lw_laws.specs.Rounds.{labels_in}
use Rattle.lw_cost.specs.Coming.{FitsGraph, still_to_come}
use Rattle.lw_check.proofs.Looking.{IsLookingAt}
use Rattle.lw_check.proofs.labelling.Labelling.has_low_match.Given as goal

abbrev pub invariant-loop-found : goal.invariant-loop-found
invariant-loop-found g l = record {
  fits : FitsGraph l.cursor l.self.graph.now;
  looking : IsLookingAt l.self.graph.now (g.C.Cost.costs l.self.by.cost.now) l.self.by.pats.now (labels_in l.self.labels.now) l.fn.class.0 (still_to_come l.cursor l.self.graph.now l.self.by.pats.now);
}

abbrev pub decreases-loop-found : goal.decreases-loop-found
decreases-loop-found g l = length (still_to_come l.cursor l.self.graph.now l.self.by.pats.now)
