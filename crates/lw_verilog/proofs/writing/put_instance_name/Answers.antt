use Rattle.std.proofs.Common.{◌∙◌}
use Rattle.lw_io.proofs.Putting.{Writes-both}
use Rattle.lw_verilog.proofs.PutParts.{Writes-is}
use Rattle.lw_verilog.proofs.writing.put_instance_name.Goals as goal

pub returns : goal.returns
returns g c = Writes-both c.put.ensures (Writes-is c.put-2.ensures (c.as_bytes.ensures.value ∙ c.format.ensures.text))
