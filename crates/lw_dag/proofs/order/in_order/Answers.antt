use Rattle.lw_dag.proofs.Sorting.{ok_then, order_permutation, order_rising, order_by_depth}
use Rattle.lw_dag.proofs.order.in_order.Goals as goal

pub returns-clause-permutation : goal.returns-clause-permutation
returns-clause-permutation g c =
    ok_then c.without_depths.result c.without_depths.ensures (λ order is. order_permutation c.args.items.items c.args.depths.now c.in_ok-deep.deep.items c.sort.new.deep.items c.requires.same c.in_ok-deep.ensures c.in_ok-sort.ensures.sorted.permutation order.items is)

pub returns-clause-rising : goal.returns-clause-rising
returns-clause-rising g c =
    ok_then c.without_depths.result c.without_depths.ensures (λ order is depth tell. order_rising c.args.items.items c.args.depths.now c.in_ok-deep.deep.items c.sort.new.deep.items c.requires.same c.in_ok-deep.ensures c.in_ok-sort.ensures.sorted.permutation depth tell c.in_ok-sort.ensures.sorted.sorted order.items is)

pub returns-clause-order : goal.returns-clause-order
returns-clause-order g c =
    ok_then c.without_depths.result c.without_depths.ensures (λ order is depth tell. order_by_depth c.args.items.items c.args.depths.now c.in_ok-deep.deep.items c.sort.new.deep.items c.requires.same c.in_ok-deep.ensures c.in_ok-sort.ensures.sorted.permutation depth tell c.in_ok-sort.ensures.sorted.sorted c.requires.least c.in_ok-sort.ensures.stable order.items is)
