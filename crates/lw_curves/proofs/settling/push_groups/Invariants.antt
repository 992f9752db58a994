use Rattle.lw_curves.proofs.Adding.{IsAdding}
use Rattle.lw_choices.proofs.Linking.{place_measure}
use Rattle.lw_curves.proofs.settling.push_groups.Given as goal

abbrev pub invariant-loop-next : goal.invariant-loop-next
invariant-loop-next l = IsAdding l.pin_groups.links.classes l.pin_groups.delays.items l.fn.class.0 l.fn.gain.time l.initial.to l.to l.next

abbrev pub decreases-loop-next : goal.decreases-loop-next
decreases-loop-next l = place_measure l.next
