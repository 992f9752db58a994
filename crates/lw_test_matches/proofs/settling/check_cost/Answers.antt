use Rattle.lw_settle.proofs.Agreeing.{of_stored_cells}
use Rattle.lw_test_matches.proofs.Leaves.{zero_leaves}
use Rattle.lw_test_matches.proofs.settling.check_cost.Goals as goal

pub settle-requires-clause-of_cells : goal.settle-requires-clause-of_cells
settle-requires-clause-of_cells g c = of_stored_cells c.args.graph.now c.args.pats.now (g.C.Cost.costs c.args.cost.now).pin_counts c.in_ok-store.store.lists c.requires.of_cells c.in_ok-store.ensures.store

pub settle-requires-clause-leaves : goal.settle-requires-clause-leaves
settle-requires-clause-leaves g c = zero_leaves c.args.graph.now (g.C.Cost.costs c.args.cost.now) c.in_ok-store.store.lists c.requires.none
