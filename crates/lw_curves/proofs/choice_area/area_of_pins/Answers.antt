use Rattle.std.proofs.Common.{◌≡◌, ◌<◌, ◌-◌, suc, Some, length, map, refl, sym, subst, arith}
use Rattle.lw_pool.specs.declared.id.ClassId.{ClassId}
use Rattle.lw_fixed.specs.declared.micro.Micro.{Micro}
use Rattle.lw_pool.specs.Numbers.{numbers}
use Rattle.lw_genlib.specs.Tables.{millionths}
use Rattle.lw_curves.specs.Pricing.{IsBestOfPins}
use Rattle.lw_curves.proofs.Prices.{IsBestFrom, from_last, from_late, from_none, from_some}
use Rattle.lw_curves.proofs.choice_area.area_of_pins.Goals as goal

pub loop-pin-init : goal.loop-pin-init
loop-pin-init c = record {
  within = omega arith;
  best = from_last c.args.fronts.now.spots c.args.time c.args.delays.now c.args.pins.now c.requires.one_each (length c.args.pins.now) refl;
}

pub returns-then-delays-pin : goal.returns-then-delays-pin
returns-then-delays-pin c =
    let y : ClassId = record { 0 = 0 } in
    let z : Micro = record { 0 = 0 } in
    let lt : c.loop-pin.pin - 1 < length c.args.pins.now = omega (arith, c.loop-pin-test.true, c.loop-pin.invariant.within) in
    from_late c.args.fronts.now.spots c.args.time c.args.delays.now c.args.pins.now c.requires.one_each (c.loop-pin.pin - 1) lt z y c.if-delays-pin.true

pub returns-in_err-first : goal.returns-in_err-first
returns-in_err-first c =
    let y : ClassId = record { 0 = 0 } in
    let z : Micro = record { 0 = 0 } in
    let lt : c.loop-pin.pin - 1 < length c.args.pins.now = omega (arith, c.loop-pin-test.true, c.loop-pin.invariant.within) in
    let none = from_none c.args.fronts.now.spots c.args.time c.args.delays.now c.args.pins.now c.requires.one_each (c.loop-pin.pin - 1) lt z y (omega (arith, c.if-delays-pin.false)) c.in_err-first.ensures in
    subst (IsBestOfPins c.args.fronts.now.spots (map millionths c.args.delays.now) (numbers c.args.pins.now) c.args.time) (sym c.from_residual.ensures) none

pub loop-pin-preserved : goal.loop-pin-preserved
loop-pin-preserved c =
    let y : ClassId = record { 0 = 0 } in
    let z : Micro = record { 0 = 0 } in
    let lt : c.loop-pin.pin - 1 < length c.args.pins.now = omega (arith, c.loop-pin-test.true, c.loop-pin.invariant.within) in
    let one : c.loop-pin.pin ≡ suc (c.loop-pin.pin - 1) = omega (arith, c.loop-pin-test.true) in
    let best = subst (λ n. IsBestFrom c.args.fronts.now.spots c.args.time c.args.delays.now c.args.pins.now c.requires.one_each n (Some c.loop-pin.area)) one c.loop-pin.invariant.best in
    record {
      within = omega (arith, lt);
      best = from_some c.args.fronts.now.spots c.args.time c.args.delays.now c.args.pins.now c.requires.one_each (c.loop-pin.pin - 1) lt z y c.in_ok-first.first c.loop-pin.area c.joined-area.result (omega (arith, c.if-delays-pin.false)) c.in_ok-first.ensures best c.joined-area.ensures;
    }

pub returns : goal.returns
returns c =
    let zero : c.loop-pin.pin ≡ 0 = omega (arith, c.loop-pin-test.false) in
    subst (λ n. IsBestFrom c.args.fronts.now.spots c.args.time c.args.delays.now c.args.pins.now c.requires.one_each n (Some c.loop-pin.area)) zero c.loop-pin.invariant.best
