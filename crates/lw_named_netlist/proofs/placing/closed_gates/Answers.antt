use Rattle.lw_named_netlist.proofs.Moving.{gates_more}
use Rattle.lw_named_netlist.proofs.placing.closed_gates.Goals as goal

pub closed-requires-clause-made : goal.closed-requires-clause-made
closed-requires-clause-made c = c.requires.made

pub closed-requires-clause-count : goal.closed-requires-clause-count
closed-requires-clause-count c = c.requires.count

pub closed-requires-clause-within : goal.closed-requires-clause-within
closed-requires-clause-within c = c.requires.within c.loop-place.place-index 0 c.loop-place-test.true

pub loop-place-preserved : goal.loop-place-preserved
loop-place-preserved c = λ draft net made tell.
    gates_more net draft.gates c.args.places.now c.loop-place.place-index c.loop-place.done.items c.push.new.self.items c.in_ok-closed.field-0 c.loop-place-test.true (c.in_ok-closed.ensures draft net made tell) (c.loop-place.invariant draft net made tell) c.in_ok-push.ensures.items
