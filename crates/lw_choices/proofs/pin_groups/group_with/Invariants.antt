use Rattle.std.proofs.Common.{ℕ}
use Rattle.lw_choices.specs.Chains.{IsLast}
use Rattle.lw_choices.proofs.Linking.{place_measure}
use Rattle.lw_choices.proofs.pin_groups.group_with.Given as goal

abbrev pub invariant-loop-next : goal.invariant-loop-next
invariant-loop-next l = (bound : ℕ) × IsLast l.links.classes l.fn.class.0 bound l.next

abbrev pub decreases-loop-next : goal.decreases-loop-next
decreases-loop-next l = place_measure l.next
