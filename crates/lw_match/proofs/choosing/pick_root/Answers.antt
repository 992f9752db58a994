use Rattle.std.proofs.Common.{refl, sym, subst, arith}
use Rattle.lw_branch.specs.declared.job.Scope.{Scope}
use Rattle.lw_cost.specs.Values.{AreInRange}
use Rattle.lw_match.specs.Queries.{SearchesBy, least_scope}
use Rattle.lw_match.proofs.Picks.{past_root, far_root, ahead_root, searched_root}
use Rattle.lw_match.proofs.choosing.pick_root.Goals as goal

pub returns-then-root-len : goal.returns-then-root-len
returns-then-root-len g c =
    past_root g.C.Cost.costs c.args.query.now c.args.pick c.requires.pick c.args.numbers.now c.args.root c.args.best.now (omega arith)

pub returns-then-not-is_near : goal.returns-then-not-is_near
returns-then-not-is_near g c =
    let q = c.args.query.now in
    far_root g.C.Cost.costs q c.args.pick c.requires.pick _ (g.met.C.Cost.laws q.site.cost.now) (subst (λ n. AreInRange n q.site.marks.now) (sym (g.met.C.Cost.cap q.site.cost.now)) c.requires.query.in_range) c.requires.query c.args.numbers.now c.args.root c.args.best.now (c.is_near.ensures c.if-not-is_near.true)

pub returns-then-is_ahead : goal.returns-then-is_ahead
returns-then-is_ahead g c =
    ahead_root g.C.Cost.costs c.args.query.now c.args.pick c.requires.pick c.args.numbers.now c.args.root c.args.best.now (c.is_ahead.ensures c.if-is_ahead.true)

pub returns : goal.returns
returns g c =
    let q = c.args.query.now in
    let searched = subst (λ (scope : Scope). SearchesBy g.C.Cost.costs q c.args.root.pattern scope c.args.best.now c.least_by.new.best) c.least_scope-scope.ensures c.least_by.ensures in
    searched_root g.C.Cost.costs q c.args.pick c.requires.pick c.args.numbers.now c.args.root (least_scope c.args.pick.top) c.args.best.now c.least_by.new.best refl refl refl searched
