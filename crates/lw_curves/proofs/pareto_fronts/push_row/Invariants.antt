use Rattle.lw_choices.proofs.Linking.{place_measure}
use Rattle.lw_curves.proofs.Grouped.{IsPutting}
use Rattle.lw_curves.proofs.pareto_fronts.push_row.Given as goal

abbrev pub invariant-loop-next : goal.invariant-loop-next
invariant-loop-next l = IsPutting l.links.classes l.points l.fn.class.0 l.initial.to.items l.to.items l.initial.ways.items l.ways.items l.next

abbrev pub decreases-loop-next : goal.decreases-loop-next
decreases-loop-next l = place_measure l.next
