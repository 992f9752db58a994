use Rattle.lw_label.proofs.HeightPasses.{heights_found, heights_bounds}
use Rattle.lw_label.proofs.heights.HeightRounds.lower_all.Goals as goal

pub loop-init : goal.loop-init
loop-init g c = c.requires

pub lower_rounds-requires : goal.lower_rounds-requires
lower_rounds-requires g c = c.loop.invariant

pub loop-preserved : goal.loop-preserved
loop-preserved g c = c.lower_rounds.ensures.rounds

pub loop-smaller : goal.loop-smaller
loop-smaller g c = c.lower_rounds.ensures.falls c.loop-test.true

pub returns-clause-least : goal.returns-clause-least
returns-clause-least g c =
    let given = c.args.given.now in
    let task = given.task.now in
    let start = c.requires.falling.search.given in
    heights_found task.graph.now (g.C.Cost.costs task.cost.now) task.pats.now given.labels.now c.lower_rounds.new.self.heights.marks.items start.problem start.graph start.lowering start.bounded c.lower_rounds.ensures.rounds.falling.search.heights (c.lower_rounds.ensures.reached c.loop-test.false)

pub returns-clause-bounds : goal.returns-clause-bounds
returns-clause-bounds g c =
    let given = c.args.given.now in
    let task = given.task.now in
    heights_bounds task.graph.now (g.C.Cost.costs task.cost.now) task.pats.now given.labels.now given.bounds.now c.lower_rounds.new.self.heights.marks.items c.requires.falling.search.given.bounds c.lower_rounds.ensures.rounds.falling.search.heights
