use Rattle.std.proofs.Common.{◌∷◌, ap, ◌∙◌, arith}
use Rattle.lw_netlist.specs.declared.gate.Port.{Port}
use Rattle.lw_io.proofs.Putting.{Writes-more}
use Rattle.lw_verilog.proofs.PutParts.{Writes-is, all-put}
use Rattle.lw_verilog.specs.Texts.{escaped}
use Rattle.lw_verilog.proofs.putting.put_further_ports.Goals as goal
use Rattle.lw_netlist.specs.Plain.{port_name}

pub loop-port-preserved : goal.loop-port-preserved
loop-port-preserved g c =
    Writes-more (λ (port : Port). 44 ∷ 32 ∷ escaped port.name) c.args.ports.now c.loop-port.port-index c.port-item.result c.loop-port-test.true c.loop-port.invariant
    (Writes-is c.put_next.ensures (ap (λ n. 44 ∷ 32 ∷ escaped n) (c.as_bytes.ensures.bytes ∙ ap (λ (port : Port). port.name) c.port-item.is)))

pub returns : goal.returns
returns g c = Writes-is c.loop-port.invariant (all-put (λ name. 44 ∷ 32 ∷ escaped name) port_name c.args.ports.now c.loop-port.port-index (omega (arith, c.loop-port-test.false)))
