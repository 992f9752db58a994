use Rattle.std.proofs.Common.{◌≡◌, ◌<◌, ◌≤◌, ◌+◌, ◌++◌, ◌/◌, ◌∙◌, length, slice_set, slice_index, ap, refl, sym, subst, subst₂, arith, true≢false}
use Rattle.std.proofs.lemmas.List.{get_or-set_other}
use Rattle.lw_lut.specs.Cuts.{PlainCut}
use Rattle.lw_lut.specs.Searches.{AreLists, IsBoundedAt, count_at, total}
use Rattle.lw_lut.proofs.Lowering.{lowered, lowered_total, lower_count}
use Rattle.lw_lut.proofs.search.Search.lower.Goals as goal

pub returns-in_default : goal.returns-in_default
returns-in_default c = record {
  counts = λ d are. are;
  depths = refl;
  falls = record {
    falls = λ e. absurd (true≢false (sym e));
    same = λ e. refl;
    bounded = λ e d at. subst (λ n. IsBoundedAt c.args.task.now.graph.now c.args.self.now.counts.items n) (sym at) (subst (λ xs. IsBoundedAt c.args.task.now.graph.now xs c.args.class.0) c.deref.ensures.value c.in_default.ensures);
  };
  fewer = λ k. omega arith;
  elsewhere = λ k other. refl;
}

pub invariant_of-joined : goal.invariant_of-joined
invariant_of-joined c = record {
  few = let (d, are) = c.requires.may.counts in
      let s = c.args.self.now in
      let less : count_at s.counts.items c.in-Some.pair.x.0 + count_at s.counts.items c.in-Some.pair.y.0 < count_at s.counts.items c.args.class.0 = subst (λ xs. count_at xs c.in-Some.pair.x.0 + count_at xs c.in-Some.pair.y.0 < count_at xs c.args.class.0) c.deref.ensures.value c.in-Some.ensures.fewer in
      let top = are.low (c.args.class.0 / 2) in
      let x = c.side-left.ensures c.args.task.now.graph.now c.args.task.now.leaves d are (omega (arith, less, top)) in
      let y = c.side-right.ensures c.args.task.now.graph.now c.args.task.now.leaves d are (omega (arith, less, top)) in
      let x1 = x.1 in let y1 = y.1 in
      omega (arith, less, top, x1, y1, c.requires.may.low);
}

pub returns : goal.returns
returns c =
    let s = c.args.self.now in
    let g = c.args.task.now.graph.now in
    let most = c.args.task.now.leaves in
    let less : count_at s.counts.items c.in-Some.pair.x.0 + count_at s.counts.items c.in-Some.pair.y.0 < count_at s.counts.items c.args.class.0 = subst (λ xs. count_at xs c.in-Some.pair.x.0 + count_at xs c.in-Some.pair.y.0 < count_at xs c.args.class.0) c.deref.ensures.value c.in-Some.ensures.fewer in
    let a = c.side-left.result in
    let b = c.side-right.result in
    let here = c.args.class.0 / 2 in
    let n : length c.pins.result.now ≡ length (a.pins ++ b.pins) = ap length (c.pins.ensures.pins ∙ ap (λ (k : PlainCut). k.pins) c.joined-cut.ensures) in
    let (d0, first) = c.requires.may.counts in
    let top = first.low here in
    let x0 = c.side-left.ensures g most d0 first (omega (arith, less, top)) in
    let y0 = c.side-right.ensures g most d0 first (omega (arith, less, top)) in
    record {
      counts = λ d are.
          let x = c.side-left.ensures g most d are (omega (arith, less, top)) in
          let y = c.side-right.ensures g most d are (omega (arith, less, top)) in
          subst₂ (λ m k. AreLists g most d d (slice_set s.counts.items here m) (slice_set s.cuts.items here k) s.pins.items s.depths.items) (sym n) (sym c.joined-cut.ensures) (lowered g most d s are c.args.class.0 c.in-Some.pair.x.0 c.in-Some.pair.y.0 c.requires.class c.in-Some.ensures.holds less a b x y);
      depths = refl;
      falls = record {
        falls = λ e. subst (λ m. total (slice_set s.counts.items here m) < total s.counts.items) (sym n) (lowered_total g most d0 s first c.args.class.0 c.in-Some.pair.x.0 c.in-Some.pair.y.0 c.requires.class c.in-Some.ensures.holds less a b x0 y0);
        same = λ e. absurd (true≢false e);
        bounded = λ e. absurd (true≢false e);
      };
      fewer = λ k. subst (λ m. slice_index (slice_set s.counts.items here m) k ≤ slice_index s.counts.items k) (sym n) (lower_count g most d0 s first c.args.class.0 c.in-Some.pair.x.0 c.in-Some.pair.y.0 c.requires.class c.in-Some.ensures.holds less a b x0 y0 k);
      elsewhere = λ k other. get_or-set_other s.counts.items here k (length c.pins.result.now) 0 other;
    }
