use Rattle.std.proofs.lemmas.Result.{err_from_is_err_and}
use Rattle.lw_map.proofs.Problems.{lack_least}
use Rattle.lw_map.proofs.problem.Problem.mapped.Goals as goal

pub returns-in_err-cover-clause-lacks : goal.returns-in_err-cover-clause-lacks
returns-in_err-cover-clause-lacks g c =
    let p = err_from_is_err_and c.from_residual-in_err-cover.result c.from_residual-in_err-cover.ensures.1 in
    rw (p.1, p.2) (lack_least (g.C.Cost.costs c.args.cost.now) c.args.self.now c.in_ok-labelled.labelled.labels c.in_ok-labelled.ensures.labels.least c.in_err-cover.field-0.0 c.in_err-cover.ensures.lacks)
