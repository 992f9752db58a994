use Rattle.std.proofs.Common.{arith, subst, sym, ◌∙◌}
use Rattle.lw_joined.specs.Places.{IsFirstStrange}
use Rattle.lw_joined.proofs.Placing.{is_strange, places_more}
use Rattle.lw_joined.proofs.places.places_in.Goals as goal

pub overflow_cast-place : goal.overflow_cast-place
overflow_cast-place c = omega (arith, c.in-Some.ensures.within, c.requires)

pub loop-name-preserved : goal.loop-name-preserved
loop-name-preserved c =
    places_more c.args.all.now.keys c.args.names.now c.loop-name.places.items c.push.new.self.items c.loop-name.name-index c.in-Some.place c.name-item.result c.loop-name-test.true c.name-item.is c.in-Some.ensures.index c.in_ok-push.ensures.items c.loop-name.invariant

pub returns-in_default : goal.returns-in_default
returns-in_default c =
    subst (IsFirstStrange c.args.all.now.keys c.args.names.now) (sym (c.in_ok-from_slice.ensures ∙ c.as_bytes.ensures.bytes))
    (is_strange c.args.all.now.keys c.args.names.now c.loop-name.places.items c.loop-name.name-index c.name-item.result c.loop-name-test.true c.name-item.is (sym c.in_default.ensures.found) c.loop-name.invariant)
