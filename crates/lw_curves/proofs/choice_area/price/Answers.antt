use Rattle.std.proofs.Common.{◌∙◌, Some, None, length, map, sym, ap, subst, arith}
use Rattle.std.proofs.lemmas.List.{length-map}
use Rattle.lw_pool.specs.declared.id.ClassId.{ClassId}
use Rattle.lw_genlib.specs.Tables.{millionths}
use Rattle.lw_choices.specs.declared.rows.Stand.{Stand}
use Rattle.lw_choices.specs.Tasks.{task}
use Rattle.lw_curves.specs.Pricing.{IsBestOfPins}
use Rattle.lw_choices.specs.Choices.{IsOfLibrary, IsWithin}
use Rattle.lw_choices.specs.Stands.{plain_part}
use Rattle.lw_curves.specs.Settling.{IsBest}
use Rattle.lw_curves.proofs.Cells.{area_is}
use Rattle.lw_curves.proofs.Prices.{gate_none, gate_some}
use Rattle.lw_choices.proofs.Parts.{within_pins}
use Rattle.lw_curves.proofs.choice_area.price.Goals as goal
use Rattle.lw_pool.specs.Numbers.{numbers}
use Rattle.lw_cost.proofs.CellPins.{pins_at}
use Rattle.lw_genlib.proofs.Shared.{delays_at}

pub area_of_pins-requires-clause-one_each : goal.area_of_pins-requires-clause-one_each
area_of_pins-requires-clause-one_each c =
    let gate = c.in-Gate.gate in
    let has = subst (λ (st : Stand). IsOfLibrary c.args.setup.now.lib.now (plain_part st)) c.in-Gate.is c.requires.of_library in
    let n = pins_at c.args.setup.now.lib.now gate.cell.0 (length (numbers gate.pins.now)) c.cell-cell.result.now c.cell-cell.ensures has in
    ap length c.delays.ensures.delays ∙ (n ∙ length-map gate.pins.now (λ (p : ClassId). p.0))

pub area_of_pins-requires-clause-within : goal.area_of_pins-requires-clause-within
area_of_pins-requires-clause-within c =
    let gate = c.in-Gate.gate in
    let within = subst (λ (st : Stand). IsWithin (length c.args.fronts.now.least) (plain_part st)) c.in-Gate.is c.requires.within in
    within_pins (length c.args.fronts.now.least) gate.pins.now within

pub returns-in_ok-pins-in-Gate-clause-best : goal.returns-in_ok-pins-in-Gate-clause-best
returns-in_ok-pins-in-Gate-clause-best c g pats =
    let s = task g pats c.args.setup.now.lib.now c.args.setup.now.starts.now in
    let gate = c.in-Gate.gate in
    let delays = delays_at c.args.setup.now.lib.now gate.cell.0 c.cell-cell.result.now c.cell-cell.ensures in
    let area = area_is c.args.setup.now.lib.now gate.cell.0 c.cell-cell.result.now c.cell-cell.ensures in
    let best = subst (λ ds. IsBestOfPins c.args.fronts.now.spots (map millionths ds) (numbers gate.pins.now) c.args.time (Some c.in_ok-pins-in-Gate.pins)) c.delays.ensures.delays c.in_ok-pins-in-Gate.ensures in
    let best' = subst (λ ds. IsBestOfPins c.args.fronts.now.spots ds (numbers gate.pins.now) c.args.time (Some c.in_ok-pins-in-Gate.pins)) (sym delays) best in
    let all = gate_some s c.args.fronts.now.spots c.args.time gate.cell.0 (numbers gate.pins.now) c.in_ok-pins-in-Gate.pins c.joined.result best' (omega (arith, c.joined.ensures, ap (λ (m : Rattle.lw_fixed.specs.declared.micro.Micro.Micro). m.0) c.area.ensures, area)) in
    subst (λ (st : Stand). IsBest s c.args.fronts.now.spots (plain_part st) c.args.time (Some c.joined.result)) (sym c.in-Gate.is) all

pub returns-in_err-pins-in-Gate-clause-best : goal.returns-in_err-pins-in-Gate-clause-best
returns-in_err-pins-in-Gate-clause-best c g pats =
    let s = task g pats c.args.setup.now.lib.now c.args.setup.now.starts.now in
    let gate = c.in-Gate.gate in
    let delays = delays_at c.args.setup.now.lib.now gate.cell.0 c.cell-cell.result.now c.cell-cell.ensures in
    let best = subst (λ ds. IsBestOfPins c.args.fronts.now.spots (map millionths ds) (numbers gate.pins.now) c.args.time None) c.delays.ensures.delays c.in_err-pins-in-Gate.ensures in
    let best' = subst (λ ds. IsBestOfPins c.args.fronts.now.spots ds (numbers gate.pins.now) c.args.time None) (sym delays) best in
    let all = gate_none s c.args.fronts.now.spots c.args.time gate.cell.0 (numbers gate.pins.now) best' in
    let none = subst (λ (st : Stand). IsBest s c.args.fronts.now.spots (plain_part st) c.args.time None) (sym c.in-Gate.is) all in
    subst (IsBest s c.args.fronts.now.spots (plain_part c.args.stand.now) c.args.time) (sym c.from_residual.ensures) none
