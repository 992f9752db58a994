use Rattle.lw_form.proofs.Numbers.{placed_at, renumbered_more, renumbered_done}
use Rattle.lw_form.proofs.renumbering.renumbered_all.Goals as goal

pub renumbered-requires : goal.renumbered-requires
renumbered-requires c = placed_at c.args.listing.now.places.items c.args.forms.now c.loop-place.place c.loop-place-test.true c.requires

pub loop-place-preserved : goal.loop-place-preserved
loop-place-preserved c = renumbered_more c.args.listing.now.places.items c.args.forms.now c.loop-place.numbers.items c.push.new.self.items c.loop-place.place c.renumbered.result c.loop-place-test.true c.renumbered.ensures c.in_ok-push.ensures.items c.loop-place.invariant

pub returns : goal.returns
returns c = renumbered_done c.args.listing.now.places.items c.args.forms.now c.loop-place.numbers.items c.loop-place.place c.loop-place-test.false c.loop-place.invariant
