use Rattle.std.proofs.Common.{ap, arith, length, length-append}
use Rattle.lw_form.proofs.Numbers.{placed_at, renumbered_more, renumbered_done}
use Rattle.lw_form.proofs.renumbering.renumbered_ids.Goals as goal

pub renumbered-requires : goal.renumbered-requires
renumbered-requires c = placed_at c.args.listing.now.places.items c.args.ids.now c.loop-place.place c.loop-place-test.true c.requires.placed

pub loop-place-preserved : goal.loop-place-preserved
loop-place-preserved c = record {
  so_far = renumbered_more c.args.listing.now.places.items c.args.ids.now c.loop-place.numbers c.push.new.self c.loop-place.place c.renumbered.result c.loop-place-test.true c.renumbered.ensures c.push.ensures c.loop-place.invariant.so_far;
  few = let e = ap length c.push.ensures in let few = c.loop-place.invariant.few in let k = rw length-append at e in omega arith;
}

pub returns : goal.returns
returns c = renumbered_done c.args.listing.now.places.items c.args.ids.now c.loop-place.numbers c.loop-place.place c.loop-place-test.false c.loop-place.invariant.so_far
