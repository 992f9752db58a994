use Rattle.std.proofs.Common.{ap, ap₂, ◌∙◌}
use Rattle.lw_io.proofs.Putting.{Writes-both}
use Rattle.lw_verilog.specs.Texts.{escaped, pins_text, tie_text}
use Rattle.lw_verilog.proofs.PutParts.{Writes-is}
use Rattle.lw_verilog.proofs.writing.put_gate.Goals as goal

pub returns : goal.returns
returns g c =
    Writes-both (Writes-is c.put_escaped.ensures (ap escaped (c.as_bytes.ensures.bytes ∙ c.name.ensures)))
    (Writes-both c.put_instance_name.ensures
    (Writes-both c.put.ensures
    (Writes-both (Writes-is c.put_pins.ensures (ap₂ (pins_text c.args.names.now) c.pins.ensures.pins c.as_slice.ensures))
    (Writes-both (Writes-is c.put_tie.ensures (ap₂ tie_text (c.as_bytes-2.ensures.bytes ∙ c.output.ensures) c.name_of.ensures)) c.put-2.ensures))))
