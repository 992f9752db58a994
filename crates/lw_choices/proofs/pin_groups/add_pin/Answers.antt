use Rattle.std.proofs.Common.{refl}
use Rattle.lw_choices.specs.declared.pin_groups.PinGroups.{PinGroups}
use Rattle.lw_choices.proofs.Using.{pin_added}
use Rattle.lw_choices.proofs.pin_groups.add_pin.Goals as goal

pub push-requires : goal.push-requires
push-requires c = c.in_ok-group.ensures.added.low c.requires.are

pub returns-clause-added : goal.returns-clause-added
returns-clause-added c =
    let mid = c.group_for.new.pin_groups in
    let new : PinGroups = record { links = mid.links; delays = mid.delays; lanes = mid.lanes; lane_delays = mid.lane_delays; members = c.push.new.self; owners = c.push-2.new.self; firsts = mid.firsts; by_group = mid.by_group } in
    pin_added c.args.pin_groups.now mid new c.args.class.0 c.args.delay c.in_ok-group.group c.args.choice c.requires.are c.in_ok-group.ensures.added refl refl c.in_ok-push.ensures.count c.in_ok-push.ensures.classes c.in_ok-push-2.ensures.items refl
