use Rattle.std.proofs.Common.{◌++◌, map, ap, sym, ◌∙◌}
use Rattle.lw_io.proofs.Putting.{Writes-both}
use Rattle.lw_verilog.specs.Texts.{joined}
use Rattle.lw_verilog.proofs.PutParts.{Writes-is, joined-both}
use Rattle.lw_verilog.proofs.putting.put_joined.Goals as goal
use Rattle.lw_netlist.specs.Plain.{port_name}

pub returns-in-Some : goal.returns-in-Some
returns-in-Some g c =
    Writes-is (Writes-both c.put_escaped.ensures (Writes-both c.put_further.ensures c.put_further_ports.ensures))
    (joined-both _ _ (map port_name c.args.outputs.now) ∙ ap (λ l. joined (l ++ map port_name c.args.outputs.now)) (sym c.in-Some.ensures))

pub returns-in-None : goal.returns-in-None
returns-in-None g c = Writes-is c.put_outputs_joined.ensures (ap (λ l. joined (l ++ map port_name c.args.outputs.now)) (sym c.in-None.ensures))
