use Rattle.std.proofs.Common.{ℕ}
use Rattle.lw_choices.specs.Chains.{IsLast}
use Rattle.lw_choices.proofs.Linking.{place_measure}
use Rattle.lw_choices.proofs.Members.{AreAdding}
use Rattle.lw_choices.proofs.group_choices.list_group.Given as goal

abbrev pub invariant-loop-next : goal.invariant-loop-next
invariant-loop-next l = (bound : ℕ) × IsLast l.pins.classes l.group bound l.next × AreAdding l.pins.classes l.owners l.group bound l.initial.to.items l.to.items

abbrev pub decreases-loop-next : goal.decreases-loop-next
decreases-loop-next l = place_measure l.next
