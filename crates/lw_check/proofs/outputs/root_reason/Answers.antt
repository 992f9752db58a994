use Rattle.lw_check.specs.Cases.{claim_of}
use Rattle.lw_check.proofs.Timely.{port_classed}
use Rattle.lw_check.proofs.outputs.root_reason.Goals as goal

pub returns-in-None : goal.returns-in-None
returns-in-None c =
    absurd (port_classed (claim_of c.args.case.now) c.inputs.ensures.kept c.outputs.ensures.kept c.requires.gates.ports c.requires.gates.askable.one_leaf c.requires.gates.matches c.requires.potential c.in-Some.place c.output_at-port.result.now c.output_at-port.ensures c.in-None.ensures.class)
