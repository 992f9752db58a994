use Rattle.std.proofs.Common.{ap, ◌∙◌, arith}
use Rattle.lw_netlist.specs.declared.gate.Port.{Port}
use Rattle.lw_io.proofs.Putting.{Writes-more}
use Rattle.lw_verilog.proofs.PutParts.{Writes-is, all-put}
use Rattle.lw_verilog.specs.Texts.{declaration}
use Rattle.lw_verilog.proofs.putting.put_port_declarations.Goals as goal
use Rattle.lw_netlist.specs.Plain.{port_name}

pub loop-port-preserved : goal.loop-port-preserved
loop-port-preserved g c =
    Writes-more (λ (port : Port). declaration c.args.keyword.now port.name) c.args.ports.now c.loop-port.port-index c.port-item.result c.loop-port-test.true c.loop-port.invariant
    (Writes-is c.put_declaration.ensures (ap (declaration c.args.keyword.now) (c.as_bytes.ensures.bytes ∙ ap (λ (port : Port). port.name) c.port-item.is)))

pub returns : goal.returns
returns g c = Writes-is c.loop-port.invariant (all-put (declaration c.args.keyword.now) port_name c.args.ports.now c.loop-port.port-index (omega (arith, c.loop-port-test.false)))
