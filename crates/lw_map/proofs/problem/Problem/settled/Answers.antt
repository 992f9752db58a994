use Rattle.std.proofs.Common.{rules}
use Rattle.lw_settle.proofs.Agreeing.{of_stored_cells, leaf_costs, settled_least}
use Rattle.lw_map.proofs.problem.Problem.settled.Goals as goal

pub settle-labels-requires-clause-of_cells : goal.settle-labels-requires-clause-of_cells
settle-labels-requires-clause-of_cells g c = of_stored_cells c.args.self.now.choices.now.graph c.args.self.now.pats (g.C.Cost.costs c.args.cost.now).pin_counts c.in-Ok.store.lists c.requires.of_cells c.in-Ok.ensures.store

pub settle-labels-requires-clause-leaves : goal.settle-labels-requires-clause-leaves
settle-labels-requires-clause-leaves g c = leaf_costs c.args.self.now.choices.now.graph (g.C.Cost.costs c.args.cost.now) c.args.self.now.pats c.in-Ok.store.lists c.classes.ensures.kept (g.met.C.Cost.laws c.args.cost.now) c.requires.of_cells c.in-Ok.ensures.store c.requires.leaves

pub returns : goal.returns
returns g c = record {
  labels = record {
    fits = tt;
    bounds = tt;
    least = settled_least c.args.self.now.choices.now.graph (g.C.Cost.costs c.args.cost.now) c.args.self.now.pats c.in-Ok.store.lists c.classes.ensures.kept (g.met.C.Cost.laws c.args.cost.now) c.requires.of_cells c.in-Ok.ensures.store c.in_ok-labels.field-0 c.in_ok-labels.ensures.marks;
  };
  steps = search rules;
}
