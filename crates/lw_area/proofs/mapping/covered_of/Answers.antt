use Rattle.std.proofs.lemmas.Result.{err_from_is_err_and}
use Rattle.lw_area.proofs.mapping.covered_of.Goals as goal

pub cover-requires-clause-joined : goal.cover-requires-clause-joined
cover-requires-clause-joined c = c.requires.joined.joined

pub cover-requires-clause-outputs : goal.cover-requires-clause-outputs
cover-requires-clause-outputs c = c.requires.sources.model.outputs

pub cover-requires-clause-early : goal.cover-requires-clause-early
cover-requires-clause-early c = c.requires.sources.model.starts.early

pub returns-in_err-covered-clause-fault : goal.returns-in_err-covered-clause-fault
returns-in_err-covered-clause-fault c =
    let p = err_from_is_err_and c.from_residual.result c.from_residual.ensures.1 in
    rw (p.1, p.2) c.in_err-covered.ensures.fault
