use Rattle.std.proofs.Common.{◌<◌, List, length, sym, subst}
use Rattle.std.specs.List.{flat_map}
use Rattle.std.proofs.lemmas.List.{take_all}
use Rattle.lw_netlist.specs.declared.gate.Port.{Port}
use Rattle.lw_mapped.specs.Texts.{wire_text}
use Rattle.lw_io.specs.Writers.{Writes}
use Rattle.lw_io.proofs.Putting.{Writes-more}
use Rattle.lw_mapped.proofs.gates.put_wires.Goals as goal

pub loop-port-preserved : goal.loop-port-preserved
loop-port-preserved g c =
    let next = subst (λ (port : Port). Writes g.S.Sink.taken g.S.Sink.faults c.loop-port.out c.put_wire.new.out (wire_text c.args.names.now port)) c.port-item.is c.put_wire.ensures in
    Writes-more (wire_text c.args.names.now) c.args.ports.now c.loop-port.port-index c.port-item.result c.loop-port-test.true c.loop-port.invariant next

pub put_wire-requires : goal.put_wire-requires
put_wire-requires g c = subst (λ (port : Port). port.net.0 < length c.args.names.now) (sym c.port-item.is) (c.requires c.loop-port.port-index c.port-item.result c.loop-port-test.true)

pub returns : goal.returns
returns g c = subst (λ (ports : List Port). Writes g.S.Sink.taken g.S.Sink.faults c.args.out.now c.loop-port.out (flat_map (wire_text c.args.names.now) ports)) (take_all c.loop-port.port-index c.args.ports.now c.loop-port-test.false) c.loop-port.invariant
