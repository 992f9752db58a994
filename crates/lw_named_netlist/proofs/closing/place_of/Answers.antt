use Rattle.std.proofs.Common.{ap, ◌∙◌}
use Rattle.std.proofs.lemmas.Bool.{false≢true}
use Rattle.lw_dag.specs.Names.{is_among}
use Rattle.lw_named_netlist.proofs.Found.{contains-among}
use Rattle.lw_named_netlist.proofs.closing.place_of.Goals as goal

pub returns-in-None-clause-number : goal.returns-in-None-clause-number
returns-in-None-clause-number c = absurd (false≢true (c.in-None.ensures.found ∙ (ap (is_among c.args.names.now) c.as_bytes.ensures.bytes ∙ contains-among c.args.names.now c.args.name.now c.requires)))

pub returns-in-None-clause-within : goal.returns-in-None-clause-within
returns-in-None-clause-within c = absurd (false≢true (c.in-None.ensures.found ∙ (ap (is_among c.args.names.now) c.as_bytes.ensures.bytes ∙ contains-among c.args.names.now c.args.name.now c.requires)))
