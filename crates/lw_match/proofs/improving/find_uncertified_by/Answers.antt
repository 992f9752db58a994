use Rattle.std.proofs.Common.{subst, inl, inr}
use Rattle.lw_cost.specs.Values.{marks_in}
use Rattle.lw_match.specs.Cutting.{IsNoneBy, bound_after}
use Rattle.lw_match.specs.Queries.{FindsWithin}
use Rattle.lw_match.proofs.improving.find_uncertified_by.Goals as goal

pub returns-clause-sound : goal.returns-clause-sound
returns-clause-sound g c =
    subst (λ bound. FindsWithin g.C.Cost.costs c.args.query.now bound c.find_before_by.result) c.unlimited.ensures.bound_is c.find_before_by.ensures.sound

pub returns-clause-none : goal.returns-clause-none
returns-clause-none g c = λ e bounds.
    let q = c.args.query.now in
    let costs = g.C.Cost.costs q.site.cost.now in
    let target = c.unlimited.result in
    let none = subst (λ found. IsNoneBy q.site.graph.now costs q.site.pats.now (marks_in q.site.marks.now) q.site.class.0 c.args.pat.0 (bound_after found target.bound)) e (c.find_before_by.ensures.none (inl e) bounds (inl c.unlimited.ensures.top)) in
    inr (subst (λ bound. IsNoneBy q.site.graph.now costs q.site.pats.now (marks_in q.site.marks.now) q.site.class.0 c.args.pat.0 bound) c.unlimited.ensures.bound_is none)
