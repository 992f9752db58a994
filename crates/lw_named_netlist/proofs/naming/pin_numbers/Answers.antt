use Rattle.lw_named_netlist.specs.Closing.{undriven_in}
use Rattle.lw_dag.specs.Names.{number_in}
use Rattle.std.proofs.lemmas.List.{take_all, drop_all}
use Rattle.std.proofs.Common.{map, ap, sym, ◌∙◌, arith}
use Rattle.std.proofs.lemmas.Result.{err_from_is_err_and}
use Rattle.lw_named_netlist.proofs.Names.{number_more, undriven_at, undriven_behind}
use Rattle.lw_named_netlist.proofs.naming.pin_numbers.Goals as goal

pub returns-in_err-number : goal.returns-in_err-number
returns-in_err-number c =
    let p = err_from_is_err_and c.from_residual-in_err-number.result c.from_residual-in_err-number.ensures.1 in
    rw (p.1, p.2) (undriven_at c.args.signals.now c.args.gate.now.pins c.loop-place.place c.pin.result.now c.in_err-number.field-0.0 c.pin.ensures.name c.loop-place.invariant.rest c.in_err-number.ensures)

pub loop-place-preserved : goal.loop-place-preserved
loop-place-preserved c = record {
  so_far = number_more c.args.signals.now c.args.gate.now.pins c.loop-place.place c.pin.result.now c.in_ok-number.number c.loop-place.numbers.items c.push.new.self.items c.pin.ensures.name c.in_ok-number.ensures.0 c.loop-place.invariant.so_far c.in-Ok.ensures.items;
  rest = undriven_behind c.args.signals.now c.args.gate.now.pins c.loop-place.place c.pin.result.now c.pin.ensures.name c.loop-place.invariant.rest c.in_ok-number.ensures.1;
}

pub returns : goal.returns
returns c = (
  c.new.ensures ∙ (c.loop-place.invariant.so_far ∙ ap (map (number_in c.args.signals.now)) (take_all c.loop-place.place c.args.gate.now.pins (omega (arith, c.loop-place-test.false, c.len-place-end.ensures)))),
  sym c.loop-place.invariant.rest ∙ ap (undriven_in c.args.signals.now) (drop_all c.loop-place.place c.args.gate.now.pins (omega (arith, c.loop-place-test.false, c.len-place-end.ensures))),
)

pub returns-in_err-numbers : goal.returns-in_err-numbers
returns-in_err-numbers c =
    let p = err_from_is_err_and c.from_residual.result c.from_residual.ensures.1 in
    rw (p.1, p.2) tt
