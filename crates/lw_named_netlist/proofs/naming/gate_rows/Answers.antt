use Rattle.lw_named_netlist.specs.Numbered.{numbered}
use Rattle.std.specs.List.{flat_map}
use Rattle.std.proofs.lemmas.List.{take_all, drop_all}
use Rattle.std.proofs.Common.{map, ap, sym, ◌∙◌, arith}
use Rattle.std.proofs.lemmas.Result.{err_from_is_err_and}
use Rattle.lw_named_netlist.specs.Closing.{gate_link, needs_of, undriven_in}
use Rattle.lw_named_netlist.proofs.Names.{numbered_more, undriven_in_link, undriven_behind_link}
use Rattle.lw_named_netlist.proofs.naming.gate_rows.Goals as goal

pub returns-in_err-row : goal.returns-in_err-row
returns-in_err-row c =
    let p = err_from_is_err_and c.from_residual-in_err-row.result c.from_residual-in_err-row.ensures.1 in
    rw (p.1, p.2) (undriven_in_link c.args.signals.now gate_link c.args.gates.now c.loop-gate.gate-index c.gate-item.result c.in_err-row.field-0.0 c.loop-gate-test.true c.gate-item.is c.loop-gate.invariant.rest c.in_err-row.ensures)

pub loop-gate-preserved : goal.loop-gate-preserved
loop-gate-preserved c = record {
  so_far = numbered_more c.args.signals.now gate_link c.args.gates.now c.loop-gate.rows.items c.push.new.self.items c.loop-gate.gate-index c.gate-item.result c.in_ok-row.row c.loop-gate-test.true c.gate-item.is c.loop-gate.invariant.so_far c.in_ok-row.ensures.0 c.in-Ok.ensures.items;
  rest = undriven_behind_link c.args.signals.now gate_link c.args.gates.now c.loop-gate.gate-index c.gate-item.result c.loop-gate-test.true c.gate-item.is c.loop-gate.invariant.rest c.in_ok-row.ensures.1;
}

pub returns : goal.returns
returns c = (
  c.loop-gate.invariant.so_far ∙ ap (λ gs. numbered c.args.signals.now (map gate_link gs)) (take_all c.loop-gate.gate-index c.args.gates.now (omega (arith, c.loop-gate-test.false))),
  sym c.loop-gate.invariant.rest ∙ ap (λ gs. undriven_in c.args.signals.now (flat_map needs_of (map gate_link gs))) (drop_all c.loop-gate.gate-index c.args.gates.now (omega (arith, c.loop-gate-test.false))),
)

pub returns-in_err-rows : goal.returns-in_err-rows
returns-in_err-rows c =
    let p = err_from_is_err_and c.from_residual.result c.from_residual.ensures.1 in
    rw (p.1, p.2) tt
