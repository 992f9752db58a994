use Rattle.std.proofs.Common.{◌≡◌, ◌∙◌, Some, length, refl, slice_get, slice_index_or, option_map, sym, ap, subst, arith}
use Rattle.std.proofs.lemmas.Option.{slice_get-map}
use Rattle.lw_pool.specs.declared.id.ClassId.{ClassId}
use Rattle.lw_fixed.specs.declared.micro.Micro.{Micro}
use Rattle.lw_choices.specs.PinGroups.{IsPinAdded}
use Rattle.lw_choices.proofs.Lists.{got}
use Rattle.lw_choices.proofs.Using.{pin_used, delay_read}
use Rattle.lw_choices.proofs.pin_groups.add_pins.Goals as goal
use Rattle.lw_pool.specs.Numbers.{numbers}

pub loop-pin-preserved : goal.loop-pin-preserved
loop-pin-preserved c = record {
  count = c.in_ok-add_pin.ensures.count ∙ c.loop-pin.invariant.count;
  are = c.in_ok-add_pin.ensures.added.are;
  firsts = c.in_ok-add_pin.ensures.added.firsts ∙ c.loop-pin.invariant.firsts;
  longer = let one = c.in_ok-add_pin.ensures.added.longer in omega (arith, one, c.loop-pin.invariant.longer);
  pin_groups = λ cells xs class cell at delays start.
      let here = c.loop-pin.invariant.pin_groups cells xs class cell at delays start in
      let k = c.loop-pin.pin in
      let y : ClassId = record { 0 = 0 } in
      let z : Micro = record { 0 = 0 } in
      let p = slice_index_or c.args.pins.now k y in
      let pn = slice_get-map (λ (q : ClassId). q.0) c.args.pins.now k ∙ ap (option_map (λ (q : ClassId). q.0)) (got c.args.pins.now k y c.loop-pin-test.true) in
      let dl = delay_read cells xs cell c.args.delays.now k z (omega (arith, c.loop-pin-test.true, c.requires.pins.one_each)) delays in
      pin_used cells xs c.args.choice k p.0 cell class (length c.args.pin_groups.now.members.classes) (numbers c.args.pins.now) c.loop-pin.pin_groups c.add_pin.new.pin_groups (subst (λ fs. slice_get fs c.args.choice ≡ Some (length c.args.pin_groups.now.members.classes)) (sym c.loop-pin.invariant.firsts) c.requires.first.first) c.loop-pin.invariant.longer at pn (subst (λ d. IsPinAdded c.loop-pin.pin_groups c.add_pin.new.pin_groups p.0 d c.args.choice) dl c.in_ok-add_pin.ensures.added) here;
}

pub loop-pin-init : goal.loop-pin-init
loop-pin-init c = record {
  count = refl;
  are = c.requires.first.are;
  firsts = refl;
  longer = omega arith;
  pin_groups = λ cells xs class cell at delays start. start;
}
