use Rattle.std.proofs.Common.{◌≡◌, ◌+◌, ◌∙◌, Some, ap, slice_get, subst, sym, take}
use Rattle.lw_equal.specs.Laid.{ArePlaces}
use Rattle.lw_equal.proofs.Laying.{all_places, places_more}
use Rattle.lw_equal.proofs.Names.{place_found}
use Rattle.lw_equal.proofs.placing.places_in.Goals as goal

pub loop-name-preserved : goal.loop-name-preserved
loop-name-preserved c =
    let all = c.args.all.now.keys in
    let names = c.args.names.now in
    let i = c.loop-name.name-index in
    let name = c.name-item.result in
    let at : slice_get all c.in-Some.place ≡ Some name = place_found all c.in-Some.place name (sym c.in-Some.ensures.index) in
    let there : slice_get all c.in-Ok.place ≡ Some name = ap (slice_get all) c.in-Ok.ensures.1 ∙ at in
    subst (ArePlaces all (take (i + 1) names)) (sym c.in_ok-push.ensures.items)
    (places_more all names c.loop-name.places.items i c.in-Ok.place name c.loop-name-test.true c.name-item.is there c.loop-name.invariant)
