use Rattle.lw_choices.proofs.Members.{AreOwnersTo}
use Rattle.lw_choices.proofs.group_choices.choices_by_group.Given as goal

abbrev pub invariant-loop-group : goal.invariant-loop-group
invariant-loop-group l = AreOwnersTo l.members.classes l.owners l.group l.starts.items l.numbers.items
