use Rattle.std.proofs.Common.{◌∙◌}
use Rattle.std.specs.Str.{bytes_eq}
use Rattle.lw_verilog.proofs.PutParts.{list_any-map}
use Rattle.lw_verilog.proofs.putting.is_output.Goals as goal
use Rattle.lw_netlist.specs.Plain.{port_name}

pub returns : goal.returns
returns c = c.has_name.ensures ∙ list_any-map (bytes_eq c.args.name.now) port_name c.args.outputs.now
