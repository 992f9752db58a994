use Rattle.std.proofs.Common.{◌++◌, map, sym, ◌∙◌}
use Rattle.lw_verilog.proofs.PutParts.{none-passed}
use Rattle.lw_verilog.proofs.taken.skipped.Goals as goal
use Rattle.lw_netlist.specs.Plain.{port_name}

pub returns-then-not-taken-clause-skipped : goal.returns-then-not-taken-clause-skipped
returns-then-not-taken-clause-skipped c = sym (none-passed (c.args.all.now.names.now ++ map port_name c.args.all.now.outputs.now) c.args.most c.args.number (sym c.requires.stands.begun ∙ c.if-not-taken.true))
