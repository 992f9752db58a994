use Rattle.std.proofs.Common.{map}
use Rattle.std.proofs.lemmas.Result.{err_from_is_err_and}
use Rattle.lw_named_netlist.specs.Closing.{gate_link, wire_link}
use Rattle.lw_named_netlist.proofs.Names.{rows_joined, known_joined, fault_in_first, fault_in_second}
use Rattle.lw_named_netlist.proofs.naming.rows.Goals as goal

pub returns : goal.returns
returns c = (
  rows_joined c.args.signals.now (map gate_link c.args.gates.now) (map wire_link c.args.wires.now) c.in_ok-rows.rows.items c.wire_rows.new.rows.items c.in_ok-rows.ensures.0 c.in_ok-wire_rows.ensures.0,
  known_joined c.args.signals.now (map gate_link c.args.gates.now) (map wire_link c.args.wires.now) c.in_ok-rows.ensures.1 c.in_ok-wire_rows.ensures.1,
)

pub returns-in_err-rows : goal.returns-in_err-rows
returns-in_err-rows c =
    let p = err_from_is_err_and c.from_residual.result c.from_residual.ensures.1 in
    rw (p.1, p.2) (fault_in_first c.args.signals.now (map gate_link c.args.gates.now) (map wire_link c.args.wires.now) c.in_err-rows.field-0.0 c.in_err-rows.ensures)

pub returns-in_err-wire_rows : goal.returns-in_err-wire_rows
returns-in_err-wire_rows c =
    let p = err_from_is_err_and c.from_residual-in_err-wire_rows.result c.from_residual-in_err-wire_rows.ensures.1 in
    rw (p.1, p.2) (fault_in_second c.args.signals.now (map gate_link c.args.gates.now) (map wire_link c.args.wires.now) c.in_err-wire_rows.field-0.0 c.in_ok-rows.ensures.1 c.in_err-wire_rows.ensures)
