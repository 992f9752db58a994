use Rattle.std.proofs.Common.{◌∙◌, take, ap, arith}
use Rattle.lw_pool.specs.declared.id.ClassId.{ClassId}
use Rattle.lw_lut.specs.Cuts.{spelled}
use Rattle.lw_lut.specs.Tables.{given}
use Rattle.lw_lut.proofs.Fanins.{spelled_more, spelled_fits}
use Rattle.std.proofs.lemmas.List.{take_all, length-take}
use Rattle.lw_lut.proofs.table.spelled.Goals as goal
use Rattle.lw_pool.specs.Numbers.{numbers}

abbrev zero_class : ClassId
zero_class = record { 0 = 0 }

pub appended-number-requires : goal.appended-number-requires
appended-number-requires c =
    let v = given (numbers c.args.fanins.now.classes.now) c.args.place in
    let k = c.loop-pin.pin-index in
    let l = length-take k c.args.pins.now.classes.now in
    let low = spelled_fits v (take k c.args.pins.now.classes.now) c.loop-pin.number c.loop-pin.invariant (let r = c.args.pins.now.few in omega (arith, l, r)) in
    omega (arith, low)

pub loop-pin-preserved : goal.loop-pin-preserved
loop-pin-preserved c =
    let v = given (numbers c.args.fanins.now.classes.now) c.args.place in
    c.appended-number.ensures ∙ spelled_more v c.args.pins.now.classes.now c.loop-pin.pin-index c.loop-pin.number zero_class c.given.result c.loop-pin-test.true c.loop-pin.invariant c.given.ensures

pub returns : goal.returns
returns c =
    let v = given (numbers c.args.fanins.now.classes.now) c.args.place in
    let all = take_all c.loop-pin.pin-index c.args.pins.now.classes.now c.loop-pin-test.false in
    let same = c.loop-pin.invariant ∙ ap (λ ps. spelled v (numbers ps)) all in
    record {
      same = same;
      few = spelled_fits v c.args.pins.now.classes.now c.loop-pin.number same c.args.pins.now.few;
    }
