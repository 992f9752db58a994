use Rattle.std.proofs.Common.{◌<◌, false, Some, None, length, refl, sym, subst, inl, arith}
use Rattle.lw_cost.specs.declared.mark.Mark.{Mark}
use Rattle.lw_match.specs.declared.target.Target.{Target}
use Rattle.lw_cost.specs.Values.{AreInRange}
use Rattle.lw_bounds.specs.Cuts.{cuts_state}
use Rattle.lw_match.proofs.Better.{hunted_none, same_bound, top_flat}
use Rattle.lw_match.proofs.RootLists.{all_far}
use Rattle.lw_match.proofs.improving.is_known_least.Goals as goal

pub returns-clause-none : goal.returns-clause-none
returns-clause-none g c = λ t bounds.
    let q = c.args.query.now in
    let costs = g.C.Cost.costs q.site.cost.now in
    let mark : Mark = record { cost = c.args.cost; height = 0 } in
    let target : Target = record { bound = Some mark; top = c.args.cost; by_marks = false; is_top = top_flat mark refl } in
    hunted_none (cuts_state q.site.cuts.now) q.site.graph.now costs q.site.pats.now q.site.marks.now q.site.class.0 (Some mark) target None (same_bound (Some mark)) (λ i lt. let known : i < length q.site.cuts.now.roots.now = omega arith in all_far g.C.Cost.costs q _ (g.met.C.Cost.laws q.site.cost.now) (subst (λ n. AreInRange n q.site.marks.now) (sym (g.met.C.Cost.cap q.site.cost.now)) c.requires.asked.query.in_range) c.requires.asked.query c.args.number target c.requires.asked.listed c.requires.far (omega arith) i lt known) (λ i lt cut. inl (c.are_sure.ensures.sure t i)) bounds
