use Rattle.std.proofs.Common.{ℕ, List, ◌∙◌, ap, length, get_or, arith}
use Rattle.lw_fixed.specs.declared.micro.Micro.{Micro}
use Rattle.lw_laws.specs.Covers.{latest}
use Rattle.lw_cost.proofs.CellPins.{pins_at}
use Rattle.lw_label.proofs.Times.{latest_pin}
use Rattle.lw_genlib.proofs.Shared.{delays_at}
use Rattle.lw_label.proofs.delay.DelayCostCost.known_up_to.Goals as goal

pub bounds-delays-pin : goal.bounds-delays-pin
bounds-delays-pin c =
    let count = ap length c.delays-delays.ensures.delays ∙ pins_at c.args.self.now.lib.now c.args.cell.0 c.args.pins c.cell.result.now c.cell.ensures c.requires.has in
    omega (arith, count, c.requires.pin)

pub returns : goal.returns
returns c = λ ds long le.
    let cell = c.cell.result.now in
    let count = pins_at c.args.self.now.lib.now c.args.cell.0 c.args.pins cell c.cell.ensures c.requires.has in
    let own = latest_pin cell.delays ds c.args.pin (omega (arith, count, long)) (omega (arith, long, c.requires.pin)) in
    let read = ap (λ (ms : List Micro). (get_or ms c.args.pin (record { 0 = 0 })).0) c.delays-delays.ensures.delays in
    let not = c.if-delays-pin.false in
    let time = ap (λ (ms : List ℕ). latest ms ds) (delays_at c.args.self.now.lib.now c.args.cell.0 cell c.cell.ensures) in
    omega (arith, own, read, not, time, le)

pub offset_bounds-delays-pin : goal.offset_bounds-delays-pin
offset_bounds-delays-pin c =
    let count = ap length c.delays-delays.ensures.delays ∙ pins_at c.args.self.now.lib.now c.args.cell.0 c.args.pins c.cell.result.now c.cell.ensures c.requires.has in
    omega (arith, count, c.requires.pin)
