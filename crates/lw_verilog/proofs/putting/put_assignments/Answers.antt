use Rattle.std.proofs.Common.{◌<◌, length, ap, sym, subst, arith}
use Rattle.std.proofs.lemmas.List.{take_all}
use Rattle.std.specs.List.{flat_map}
use Rattle.lw_netlist.specs.declared.gate.Port.{Port}
use Rattle.lw_io.proofs.Putting.{Writes-more}
use Rattle.lw_verilog.proofs.PutParts.{Writes-is}
use Rattle.lw_verilog.specs.Texts.{assignment_text}
use Rattle.lw_verilog.proofs.putting.put_assignments.Goals as goal

pub loop-port-preserved : goal.loop-port-preserved
loop-port-preserved g c =
    Writes-more (assignment_text c.args.names.now) c.args.ports.now c.loop-port.port-index c.port-item.result c.loop-port-test.true c.loop-port.invariant
    (Writes-is c.put_assignment_of.ensures (ap (assignment_text c.args.names.now) c.port-item.is))

pub returns : goal.returns
returns g c = Writes-is c.loop-port.invariant (ap (flat_map (assignment_text c.args.names.now)) (take_all c.loop-port.port-index c.args.ports.now (omega (arith, c.loop-port-test.false))))

pub put_assignment_of-requires : goal.put_assignment_of-requires
put_assignment_of-requires g c = subst (λ (port : Port). port.net.0 < length c.args.names.now) (sym c.port-item.is) (c.requires c.loop-port.port-index c.port-item.result c.loop-port-test.true)
