use Rattle.std.proofs.Common.{length, ap, ◌∙◌}
use Rattle.std.proofs.lemmas.List.FromFn.{length-range_with_len}
use Rattle.lw_named_netlist.proofs.placing.places_by.Goals as goal

pub in_order-requires-clause-same : goal.in_order-requires-clause-same
in_order-requires-clause-same c = ap length c.in_ok-all.ensures ∙ length-range_with_len 0 (length c.args.depths.now)

pub in_order-requires-clause-least : goal.in_order-requires-clause-least
in_order-requires-clause-least c = c.requires

pub returns-clause-permutation : goal.returns-clause-permutation
returns-clause-permutation c = rw c.in_ok-all.ensures at c.in_order.ensures.permutation

pub returns-clause-rising : goal.returns-clause-rising
returns-clause-rising c = rw c.in_ok-all.ensures at c.in_order.ensures.rising

pub returns-clause-order : goal.returns-clause-order
returns-clause-order c = rw c.in_ok-all.ensures at c.in_order.ensures.order
