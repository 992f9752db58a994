use Rattle.std.proofs.Common.{◌++◌, map, ap, ap₂, ◌∙◌}
use Rattle.lw_io.proofs.Putting.{Writes-both}
use Rattle.lw_verilog.specs.Texts.{escaped, joined}
use Rattle.lw_verilog.proofs.PutParts.{Writes-is}
use Rattle.lw_verilog.proofs.writing.put_header.Goals as goal
use Rattle.lw_netlist.specs.Plain.{port_name}

pub returns : goal.returns
returns g c =
    Writes-both c.put.ensures
    (Writes-both (Writes-is c.put_escaped.ensures (ap escaped (c.as_bytes.ensures.bytes ∙ c.model.ensures)))
    (Writes-both c.put-2.ensures
    (Writes-both (Writes-is c.put_joined.ensures (ap₂ (λ a b. joined (a ++ map port_name b)) c.input_names.ensures c.outputs.ensures.outputs)) c.put-3.ensures)))
