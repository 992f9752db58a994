use Rattle.std.proofs.Common.{◌∷◌, ◌<◌, length, refl, sym, subst, slice_set, arith}
use Rattle.std.specs.List.Sorted.{IsPermutation}
use Rattle.lw_queue.specs.Queues.{flat}
use Rattle.lw_queue.proofs.Laning.{flat_pushed}
use Rattle.std.proofs.lemmas.Option.{slice_get_read}
use Rattle.lw_queue.proofs.lanes.push_behind.Goals as goal

pub returns : goal.returns
returns c =
    let lanes = c.args.lanes.now.items in
    let i = c.args.lane in
    let lane = c.index_mut.result.now in
    let lt : i < length lanes = omega (arith, c.if-lane-len.false, c.len.ensures, c.args.lanes.now.ok) in
    subst (λ l. IsPermutation (c.args.item ∷ flat lanes) (flat (slice_set lanes i l))) (sym c.in_ok-push.ensures) (flat_pushed lanes i lane c.args.item (slice_get_read lanes (length lanes) i lane refl lt c.index_mut.ensures.value))
