use Rattle.lw_net.proofs.Writing.{draft_same}
use Rattle.lw_net.proofs.written.by_numbers.Goals as goal

pub returns-clause-draft : goal.returns-clause-draft
returns-clause-draft c =
    draft_same c.into_parts-names.result.0.keys c.numbers.new.names.keys c.numbers-2.new.names.keys c.into_parts-names.result.1.items c.in_ok-inputs.inputs.items c.in_ok-outputs.outputs.items c.args.draft c.numbers.ensures.longer c.numbers-2.ensures.longer c.into_parts-names.ensures.within c.in_ok-inputs.ensures.within c.into_parts-names.ensures.nodes c.in_ok-inputs.ensures.named c.in_ok-outputs.ensures.named
