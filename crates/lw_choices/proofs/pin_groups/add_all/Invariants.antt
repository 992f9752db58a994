use Rattle.std.proofs.Common.{◌≡◌}
use Rattle.lw_choices.specs.PinGroups.{AreGroupsTo, AreUsesTo}
use Rattle.lw_choices.proofs.pin_groups.add_all.Given as goal

abbrev pub invariant-loop-choice : goal.invariant-loop-choice
invariant-loop-choice l = record {
  count : l.pin_groups.links.count ≡ l.initial.pin_groups.links.count;
  of : AreGroupsTo l.choice l.pin_groups;
  pin_groups : AreUsesTo l.lib l.rows l.choice 0 l.pin_groups;
}
