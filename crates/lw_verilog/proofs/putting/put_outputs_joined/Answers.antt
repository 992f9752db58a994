use Rattle.std.proofs.Common.{ap, sym}
use Rattle.lw_io.proofs.Putting.{Writes-both, Writes-none}
use Rattle.lw_verilog.specs.Texts.{joined}
use Rattle.lw_verilog.proofs.PutParts.{Writes-is}
use Rattle.lw_verilog.proofs.putting.put_outputs_joined.Goals as goal

pub returns-in-Some : goal.returns-in-Some
returns-in-Some g c = Writes-is (Writes-both c.put_escaped.ensures c.put_further_ports.ensures) (ap joined (sym c.in-Some.ensures))

pub returns-in_default : goal.returns-in_default
returns-in_default g c = Writes-is Writes-none (ap joined (sym c.in_default.ensures))
