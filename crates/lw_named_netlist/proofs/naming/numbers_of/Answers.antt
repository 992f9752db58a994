use Rattle.lw_named_netlist.specs.Closing.{undriven_in}
use Rattle.lw_dag.specs.Names.{number_in}
use Rattle.std.proofs.lemmas.List.{take_all, drop_all}
use Rattle.std.proofs.Common.{Some, length, refl, ap, sym, ◌∙◌, map, arith}
use Rattle.std.proofs.lemmas.Option.{slice_get_read}
use Rattle.std.proofs.lemmas.Result.{err_from_is_err_and}
use Rattle.lw_named_netlist.proofs.Names.{number_more, undriven_at, undriven_behind}
use Rattle.lw_named_netlist.proofs.naming.numbers_of.Goals as goal

pub returns-in_err-number : goal.returns-in_err-number
returns-in_err-number c =
    let p = err_from_is_err_and c.from_residual-in_err-number.result c.from_residual-in_err-number.ensures.1 in
    let at = slice_get_read c.args.names.now (length c.args.names.now) c.loop-name.name-index c.name-item.result refl c.loop-name-test.true c.name-item.is ∙ ap Some (sym c.as_bytes.ensures.bytes) in
    rw (p.1, p.2) (undriven_at c.args.signals.now c.args.names.now c.loop-name.name-index c.as_bytes.result.now c.in_err-number.field-0.0 at c.loop-name.invariant.rest c.in_err-number.ensures)

pub loop-name-preserved : goal.loop-name-preserved
loop-name-preserved c =
    let at = slice_get_read c.args.names.now (length c.args.names.now) c.loop-name.name-index c.name-item.result refl c.loop-name-test.true c.name-item.is ∙ ap Some (sym c.as_bytes.ensures.bytes) in
    record {
      so_far = number_more c.args.signals.now c.args.names.now c.loop-name.name-index c.as_bytes.result.now c.in_ok-number.number c.loop-name.numbers.items c.push.new.self.items at c.in_ok-number.ensures.0 c.loop-name.invariant.so_far c.in-Ok.ensures.items;
      rest = undriven_behind c.args.signals.now c.args.names.now c.loop-name.name-index c.as_bytes.result.now at c.loop-name.invariant.rest c.in_ok-number.ensures.1;
    }

pub returns : goal.returns
returns c = (
  c.new.ensures ∙ (c.loop-name.invariant.so_far ∙ ap (map (number_in c.args.signals.now)) (take_all c.loop-name.name-index c.args.names.now (omega (arith, c.loop-name-test.false)))),
  sym c.loop-name.invariant.rest ∙ ap (undriven_in c.args.signals.now) (drop_all c.loop-name.name-index c.args.names.now (omega (arith, c.loop-name-test.false))),
)

pub returns-in_err-numbers : goal.returns-in_err-numbers
returns-in_err-numbers c =
    let p = err_from_is_err_and c.from_residual.result c.from_residual.ensures.1 in
    rw (p.1, p.2) tt
