use Rattle.std.proofs.Common.{◌≡◌, ◌∷◌, ◌<◌, ◌∙◌, Some, length, slice_get, slice_set, refl, ap, subst, arith}
use Rattle.std.specs.List.Sorted.{IsPermutation}
use Rattle.lw_queue.specs.Queues.{flat}
use Rattle.lw_queue.proofs.Laning.{flat_taken, less_next, set_same}
use Rattle.std.proofs.lemmas.Option.{slice_get_read}
use Rattle.lw_queue.proofs.lanes.take_in.Goals as goal

pub returns-in-Some-clause-taken : goal.returns-in-Some-clause-taken
returns-in-Some-clause-taken c =
    let lanes = c.loop-lane.lanes.items in
    let i = c.loop-lane.lane in
    let lane = c.index_mut.result.now in
    let lt : i < length lanes = omega (arith, c.loop-lane-test.true, c.requires, ap length c.loop-lane.invariant.same) in
    let at = slice_get_read lanes (length lanes) i lane refl lt c.index_mut.ensures.value ∙ ap Some c.in-Some.ensures in
    let new = c.take.new.self in
    subst (λ ls. IsPermutation (flat ls) ((c.args.left, c.in-Some.found) ∷ flat (slice_set lanes i new))) c.loop-lane.invariant.same (flat_taken lanes i new (c.args.left, c.in-Some.found) at)

pub loop-lane-preserved : goal.loop-lane-preserved
loop-lane-preserved c =
    let lanes = c.loop-lane.lanes.items in
    let i = c.loop-lane.lane in
    let lane = c.index_mut.result.now in
    let lt : i < length lanes = omega (arith, c.loop-lane-test.true, c.requires, ap length c.loop-lane.invariant.same) in
    let at = slice_get_read lanes (length lanes) i lane refl lt c.index_mut.ensures.value in
    let (same, less) = c.in_default.ensures in
    let at' = subst (λ ls. slice_get ls i ≡ Some lane) c.loop-lane.invariant.same at in
    record {
      same = ap (slice_set lanes i) same ∙ (set_same lanes i lane at ∙ c.loop-lane.invariant.same);
      less = less_next c.args.lanes.now.items c.args.first i c.args.left lane at' less c.loop-lane.invariant.less;
    }
