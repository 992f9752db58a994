use Rattle.std.proofs.Common.{◌≡◌, ◌<◌, ℕ, Some, length, map, get_or, sym, ap, subst, ◌∙◌, arith, below_more}
use Rattle.std.proofs.lemmas.List.{length-map}
use Rattle.std.proofs.lemmas.Option.{slice_get_within, same_Some}
use Rattle.lw_genlib.specs.Tables.{millionths}
use Rattle.lw_netlist.specs.declared.gate.Port.{Port}
use Rattle.lw_report.specs.Timings.{port_arrival}
use Rattle.lw_report.proofs.PathLemmas.{port_read}
use Rattle.lw_report.proofs.path.first_output.Goals as goal

pub returns-then-arrivals-port-clause-found : goal.returns-then-arrivals-port-clause-found
returns-then-arrivals-port-clause-found c =
    let arrivals = c.args.arrivals.now in
    let place = c.loop-place.place in
    let port = c.index-ports-place.result in
    let inside = subst (λ (p : Port). p.net.0 < length arrivals) (sym c.index-ports-place.is) (c.requires place port c.loop-place-test.true) in
    let read = port_read arrivals c.args.ports.now place port (record { 0 = 0 }) c.loop-place-test.true c.index-ports-place.is inside in
    record { is = read ∙ ap (λ (t : ℕ). Some t) c.if-arrivals-port.true; first = c.loop-place.invariant }

pub loop-place-preserved : goal.loop-place-preserved
loop-place-preserved c =
    let arrivals = c.args.arrivals.now in
    let place = c.loop-place.place in
    let port = c.index-ports-place.result in
    let inside = subst (λ (p : Port). p.net.0 < length arrivals) (sym c.index-ports-place.is) (c.requires place port c.loop-place-test.true) in
    let read = port_read arrivals c.args.ports.now place port (record { 0 = 0 }) c.loop-place-test.true c.index-ports-place.is inside in
    below_more _ _ c.loop-place.invariant (λ e. c.if-arrivals-port.false (same_Some (get_or arrivals port.net.0 (record { 0 = 0 })).0 c.args.time.0 (sym read ∙ e)))

pub returns-clause-none : goal.returns-clause-none
returns-clause-none c = λ j e.
    let times = map (port_arrival (map millionths c.args.arrivals.now)) c.args.ports.now in
    let within : j < length times = slice_get_within times j c.args.time.0 e in
    let size : length times ≡ length c.args.ports.now = length-map c.args.ports.now (port_arrival (map millionths c.args.arrivals.now)) in
    c.loop-place.invariant j (omega (arith, within, size, c.loop-place-test.false)) e
