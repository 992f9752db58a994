use Rattle.lw_curves.proofs.Fronting.{IsSeeking}
use Rattle.lw_curves.proofs.pareto_fronts.area_by.Given as goal

abbrev pub invariant-loop-place : goal.invariant-loop-place
invariant-loop-place l = IsSeeking l.links.classes l.points l.fn.class.0 l.time l.place

abbrev pub decreases-loop-place : goal.decreases-loop-place
decreases-loop-place l = l.place
