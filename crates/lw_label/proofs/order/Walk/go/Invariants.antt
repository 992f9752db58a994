use Rattle.std.proofs.Common.{◌≡◌, true, false, slice_index_or}
use Rattle.lw_label.specs.Orders.{IsWalk, StaysEntered, places_of, steps_left}
use Rattle.lw_label.proofs.order.Walk.go.Given as goal

abbrev pub invariant-loop : goal.invariant-loop
invariant-loop l = record {
  walk : IsWalk (places_of l.graph) l.self;
  stays : StaysEntered l.fn.self l.self;
  entered : slice_index_or l.self.entered.items l.place false ≡ true;
}

abbrev pub decreases-loop : goal.decreases-loop
decreases-loop l = steps_left l.self
