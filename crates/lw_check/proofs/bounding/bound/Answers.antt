use Rattle.lw_cost.proofs.MarksAsLabels.{cover_problem}
use Rattle.lw_laws.proofs.Together.{bounds_covers}
use Rattle.lw_check.proofs.Failures.{fails_least, none_is_potential, some_is_first}
use Rattle.lw_check.proofs.bounding.bound.Goals as goal

pub returns-clause-none : goal.returns-clause-none
returns-clause-none g c =
    let graph = c.args.graph.now in
    let cost = g.C.Cost.costs c.args.cost.now in
    let pats = c.args.pats.now in
    let labels = c.args.labels.now in
    none_is_potential graph cost pats labels c.earlier.result (fails_least graph cost pats labels c.first_late_input.result c.first_low_class.result c.earlier.result c.earlier.ensures c.first_late_input.ensures c.first_low_class.ensures)

pub returns-clause-some : goal.returns-clause-some
returns-clause-some g c =
    let graph = c.args.graph.now in
    let cost = g.C.Cost.costs c.args.cost.now in
    let pats = c.args.pats.now in
    let labels = c.args.labels.now in
    some_is_first graph cost pats labels c.earlier.result (fails_least graph cost pats labels c.first_late_input.result c.first_low_class.result c.earlier.result c.earlier.ensures c.first_late_input.ensures c.first_low_class.ensures) c.classes.ensures.kept c.requires.one_each

pub returns-clause-covers : goal.returns-clause-covers
returns-clause-covers g c = λ none.
    let graph = c.args.graph.now in
    let cost = g.C.Cost.costs c.args.cost.now in
    let pats = c.args.pats.now in
    let labels = c.args.labels.now in
    let problem = cover_problem graph cost pats c.classes.ensures.kept (g.met.C.Cost.laws c.args.cost.now) c.requires.of_cells in
    let is = (none_is_potential graph cost pats labels c.earlier.result (fails_least graph cost pats labels c.first_late_input.result c.first_low_class.result c.earlier.result c.earlier.ensures c.first_late_input.ensures c.first_low_class.ensures)).0 none in
    bounds_covers graph pats cost labels problem.few problem.once problem.patterns problem.cost_is is
