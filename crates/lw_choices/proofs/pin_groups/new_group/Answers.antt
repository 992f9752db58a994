use Rattle.std.proofs.Common.{refl}
use Rattle.lw_choices.specs.declared.pin_groups.PinGroups.{PinGroups}
use Rattle.lw_choices.proofs.Using.{group_added}
use Rattle.lw_choices.proofs.pin_groups.new_group.Goals as goal

pub returns-clause-added : goal.returns-clause-added
returns-clause-added c =
    let old = c.args.pin_groups.now in
    let new : PinGroups = record { links = c.push.new.self; delays = c.push-2.new.self; lanes = c.push-3.new.self; lane_delays = c.lane_for.new.lane_delays; members = c.grow.new.self; owners = old.owners; firsts = old.firsts; by_group = old.by_group } in
    group_added old new c.args.class.0 c.args.delay c.len-group.result c.in_ok-push.ensures.classes c.in_ok-push-2.ensures.items c.in_ok-grow.ensures.classes refl refl c.in_ok-grow.ensures.count c.len-group.ensures.len
