use Rattle.std.proofs.Common.{◌<◌, List, length, map, sym, subst}
use Rattle.std.specs.List.{flat_map}
use Rattle.std.proofs.lemmas.List.{take_all}
use Rattle.lw_genlib.specs.Tables.{millionths}
use Rattle.lw_netlist.specs.declared.gate.Port.{Port}
use Rattle.lw_io.specs.Writers.{Writes}
use Rattle.lw_io.proofs.Putting.{Writes-more, Writes-none}
use Rattle.lw_report.specs.Timings.{arrival_line}
use Rattle.lw_report.proofs.report.put_arrivals.Goals as goal

pub loop-port-init : goal.loop-port-init
loop-port-init g c = Writes-none

pub put_arrival-requires : goal.put_arrival-requires
put_arrival-requires g c = subst (λ (port : Port). port.net.0 < length c.args.arrivals.now) (sym c.port-item.is) (c.requires c.loop-port.port-index c.port-item.result c.loop-port-test.true)

pub loop-port-preserved : goal.loop-port-preserved
loop-port-preserved g c =
    let next = subst (λ (port : Port). Writes g.S.Sink.taken g.S.Sink.faults c.loop-port.out c.put_arrival.new.out (arrival_line (map millionths c.args.arrivals.now) port)) c.port-item.is c.put_arrival.ensures in
    Writes-more (arrival_line (map millionths c.args.arrivals.now)) c.args.ports.now c.loop-port.port-index c.port-item.result c.loop-port-test.true c.loop-port.invariant next

pub returns : goal.returns
returns g c =
    subst (λ (ports : List Port). Writes g.S.Sink.taken g.S.Sink.faults c.args.out.now c.loop-port.out (flat_map (arrival_line (map millionths c.args.arrivals.now)) ports)) (take_all c.loop-port.port-index c.args.ports.now c.loop-port-test.false) c.loop-port.invariant
