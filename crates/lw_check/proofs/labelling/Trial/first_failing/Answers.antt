use Rattle.lw_check.proofs.Failures.{fails_least}
use Rattle.lw_check.proofs.labelling.Trial.first_failing.Goals as goal

pub returns : goal.returns
returns g c =
    let t = c.args.self.now in
    fails_least t.given.now.graph.now (g.C.Cost.costs t.given.now.by.cost.now) t.given.now.by.pats.now t.given.now.labels.now c.first_late_input-late.result c.first_low.result c.earlier.result c.earlier.ensures c.first_late_input-late.ensures c.first_low.ensures
