use Rattle.std.proofs.Common.{length, slice_index_or, ◌∙◌, arith}
use Rattle.std.proofs.lemmas.List.{get_or_default, length-set}
use Rattle.std.proofs.lemmas.Bool.{cases_lt}
use Rattle.lw_trade.proofs.Places.{low_at, place_at, place_low}
use Rattle.lw_trade.proofs.assembly.places_in.Goals as goal

pub index_mut-requires : goal.index_mut-requires
index_mut-requires c =
    let order = c.args.order.now in
    let low = low_at (length order) order c.requires.moved c.loop-place.place c.loop-place-test.true in
    omega (arith, low, c.loop-place.invariant.one_each)

pub loop-place-preserved : goal.loop-place-preserved
loop-place-preserved c =
    let order = c.args.order.now in
    let n = length order in
    let places = c.loop-place.places.items in
    let p = c.loop-place.place in
    let q = slice_index_or order p 0 in
    let is = c.loop-place.invariant in
    let low = low_at n order c.requires.moved p c.loop-place-test.true in
    record {
      one_each = length-set places q p ∙ is.one_each;
      low = λ i lt. place_low n order c.requires.moved places q p is.one_each low c.loop-place-test.true is.low i lt (cases_lt i q) (cases_lt q i);
      at = λ k lt. place_at n order c.requires.moved places p is.one_each c.loop-place-test.true is.at k lt (cases_lt k p);
    }

pub returns : goal.returns
returns c =
    let is = c.loop-place.invariant in
    let places = c.loop-place.places.items in
    record {
      one_each = is.one_each;
      low = λ k d lt.
          let b = is.low k (omega (arith, lt, is.one_each)) in
          let e = get_or_default places k 0 d lt in
          omega (arith, b, e);
      at = λ k lt. is.at k (omega (arith, lt, c.loop-place-test.false));
    }
