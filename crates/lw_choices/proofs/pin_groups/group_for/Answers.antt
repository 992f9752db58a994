use Rattle.std.proofs.Common.{subst}
use Rattle.lw_choices.specs.PinGroups.{IsGroup}
use Rattle.lw_choices.proofs.Using.{group_there}
use Rattle.lw_choices.proofs.pin_groups.group_for.Goals as goal

pub returns-in-Some-clause-added : goal.returns-in-Some-clause-added
returns-in-Some-clause-added c =
    let is = subst (λ ds. IsGroup c.args.pin_groups.now.links.classes ds c.args.class.0 c.args.delay c.in-Some.group) c.as_slice-delays.ensures.value c.in-Some.ensures in
    group_there c.args.pin_groups.now c.args.class.0 c.args.delay c.in-Some.group is
