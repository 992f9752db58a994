use Rattle.std.proofs.Common.{◌∙◌, sym}
use Rattle.lw_check.specs.Cases.{claim_of}
use Rattle.lw_check.proofs.Judging.{inputs_beside}
use Rattle.lw_check.proofs.outputs.arrivals_of.Goals as goal

pub arrivals-requires-clause-one_start : goal.arrivals-requires-clause-one_start
arrivals-requires-clause-one_start c = c.requires.askable.one_start ∙ sym (inputs_beside (claim_of c.args.case.now) c.inputs.ensures.kept c.names.ensures.kept c.requires.ports)
