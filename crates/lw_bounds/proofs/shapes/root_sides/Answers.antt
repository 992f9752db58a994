use Rattle.std.proofs.Common.{◌-◌, ◌<◌, ◌∷◌, [], length, slice_index_or, sym, ap, subst, ◌∙◌, arith}
use Rattle.std.proofs.lemmas.List.{length-append}
use Rattle.lw_pattern.specs.Listed.{pattern_of}
use Rattle.lw_bounds.specs.declared.parts.Kind.TheVariants.{Any}
use Rattle.lw_bounds.specs.Shapes.{plain, HaveRootShapes}
use Rattle.lw_bounds.proofs.RootShapes.{roots_more}
use Rattle.lw_bounds.proofs.shapes.root_sides.Goals as goal

pub loop-number-preserved : goal.loop-number-preserved
loop-number-preserved c =
    let l = c.loop-number in
    let sides = c.index-all-number.result in
    let root = c.side_at.result in
    let items = c.in_ok-push.ensures.items in
    let within : l.number < length c.args.all.now = omega (arith, c.requires, c.len-number-end.ensures.len, c.loop-number-test.true) in
    let last = ap (λ n. slice_index_or sides.items (n - 1) (plain Any)) (c.len-place.ensures ∙ sym (ap length c.get-pattern.ensures.kept.whole)) in
    let is = c.side_at.ensures ∙ (ap (λ ss. slice_index_or ss (c.len-place.result - 1) (plain Any)) c.deref.ensures.value ∙ last) in
    record {
      count = let was = l.invariant.count in omega (arith, ap length items, length-append l.roots.items (root ∷ []));
      shapes = λ parts gaps have. subst (λ roots. HaveRootShapes parts gaps c.args.pats.now roots) (sym items)
          (roots_more parts gaps c.args.pats.now c.args.all.now l.roots.items l.number (pattern_of c.get-pattern.result.now) sides root l.invariant.count c.get-pattern.ensures.listed within c.index-all-number.is is have (l.invariant.shapes parts gaps have));
    }
