use Rattle.std.proofs.Common.{◌≡◌, ◌+◌, ◌<◌, ℕ, [], ◌∷◌, ◌++◌, length, get_or, slice_index_or, ap, sym, ◌∙◌, subst, arith}
use Rattle.std.proofs.lemmas.List.FromFn.{length-range_with_len, get_or-range_with_len}
use Rattle.std.specs.List.{range_with_len}
use Rattle.std.specs.List.Sorted.{IsPermutation}
use Rattle.lw_dag.specs.Graphs.{height_at}
use Rattle.lw_facts.proofs.Results.{ok_both}
use Rattle.lw_trade.proofs.Places.{range_more, slice_length, slice_at}
use Rattle.lw_trade.proofs.assembly.by_depth.Goals as goal

pub loop-gate-preserved : goal.loop-gate-preserved
loop-gate-preserved c =
    let zero : ◌≡◌ {A = ℕ} (0 + c.loop-gate.gate) c.loop-gate.gate = omega arith in
    c.in_ok-push.ensures.items ∙ (ap (λ l. l ++ c.loop-gate.gate ∷ []) c.loop-gate.invariant ∙ (ap (λ k. range_with_len 0 c.loop-gate.gate ++ k ∷ []) (sym zero) ∙ sym (range_more 0 c.loop-gate.gate)))

pub in_order-requires-clause-same : goal.in_order-requires-clause-same
in_order-requires-clause-same c =
    let n = length c.args.pins.now in
    let all = c.in_ok-levels.levels.heights.items in
    let are = c.in_ok-levels.ensures.heights in
    let long = length-range_with_len 0 c.loop-gate.gate in
    let many = ap length c.loop-gate.invariant in
    let sliced = slice_length c.args.inputs n all c.deref.result.now are.known.one_each c.deref.ensures.value in
    omega (arith, many, long, sliced, c.loop-gate-test.false)

pub in_order-requires-clause-least : goal.in_order-requires-clause-least
in_order-requires-clause-least c k d lt =
    let n = length c.args.pins.now in
    let all = c.in_ok-levels.levels.heights.items in
    let are = c.in_ok-levels.ensures.heights in
    let sliced = slice_length c.args.inputs n all c.deref.result.now are.known.one_each c.deref.ensures.value in
    let e = slice_at c.args.inputs n all c.deref.result.now are.known.one_each c.deref.ensures.value k d (omega (arith, lt, sliced)) in
    let high = c.requires.high all are k (omega (arith, lt, sliced)) in
    omega (arith, e, high)

pub returns : goal.returns
returns c =
    let n = length c.args.pins.now in
    let all = c.in_ok-levels.levels.heights.items in
    let are = c.in_ok-levels.ensures.heights in
    let gates = c.loop-gate.gates.items in
    let count : ◌≡◌ {A = ℕ} c.loop-gate.gate n = omega (arith, c.loop-gate-test.false, c.loop-gate.auto.gate-end) in
    let made : gates ≡ range_with_len 0 n = c.loop-gate.invariant ∙ ap (range_with_len 0) count in
    let long = ap length made ∙ length-range_with_len 0 n in
    let one = are.known.one_each in
    let same = c.deref.ensures.value in
    ok_both c.in_order.result c.in_order.ensures.permutation c.in_order.ensures.rising (λ order moved rising. record {
      heights = all;
      are = are;
      moved = subst (λ l. IsPermutation l order.items) made moved;
      rising = rising (λ j. height_at all (c.args.inputs + j)) (λ k d lt.
          let low : k < n = omega (arith, lt, long) in
          let e : slice_index_or gates k d ≡ k = ap (λ l. get_or l k d) made ∙ (let g = get_or-range_with_len 0 n k d low in omega (arith, g)) in
          slice_at c.args.inputs n all c.deref.result.now one same k 0 low ∙ ap (λ j. height_at all (c.args.inputs + j)) (sym e));
    })
