use Rattle.std.proofs.Common.{ℕ, ◌≤◌, ◌≡◌, max, Some, slice_get, slice_index, eqb-true, sym, ◌∙◌, arith}
use Rattle.lw_bounds.specs.declared.parts.Part.{Part}
use Rattle.lw_bounds.specs.Numbers.{reading}
use Rattle.lw_bounds.specs.Places.{view_number}
use Rattle.lw_bounds.proofs.SideRows.{low_pair, same_views}
use Rattle.lw_bounds.proofs.lowering.lower_by.Goals as goal

pub returns-clause-lowered : goal.returns-clause-lowered
returns-clause-lowered c =
    let parts = c.args.plan.parts.now in
    let one = c.view_at-one.result in
    let other = c.view_at-other.result in
    let new = c.lower_all-turned.new.least in
    let low : (n : ℕ) (p : Part) → slice_get parts n ≡ Some p → slice_index new n ≤ max (view_number one p.left) (view_number other p.right) = λ n p at. let a = c.lower_all-fell.ensures.lowered n p at in let b = c.lower_all-turned.ensures.lessened.no_more n in omega arith in
    low_pair (reading c.args.at) parts one other c.args.pair.x.0 c.args.pair.y.0 new c.requires.planned.width_is c.requires.planned.least_are.closed c.view_at-one.ensures.sides c.view_at-other.ensures.sides low c.lower_all-turned.ensures.lowered

pub returns-then-eq-clause-lowered : goal.returns-then-eq-clause-lowered
returns-then-eq-clause-lowered c =
    let parts = c.args.plan.parts.now in
    let one = c.view_at-one.result in
    let other = c.view_at-other.result in
    let new = c.lower_all-fell.new.least in
    let same : c.args.pair.x.0 ≡ c.args.pair.y.0 = eqb-true c.args.pair.x.0 c.args.pair.y.0 (sym c.eq.ensures ∙ c.if-eq.true) in
    let turned = same_views (reading c.args.at) parts one other c.args.pair.x.0 c.args.pair.y.0 new c.requires.planned.width_is c.requires.planned.least_are.closed c.view_at-one.ensures.sides c.view_at-other.ensures.sides same c.lower_all-fell.ensures.lowered in
    low_pair (reading c.args.at) parts one other c.args.pair.x.0 c.args.pair.y.0 new c.requires.planned.width_is c.requires.planned.least_are.closed c.view_at-one.ensures.sides c.view_at-other.ensures.sides c.lower_all-fell.ensures.lowered turned
