use Rattle.std.proofs.Common.{◌≡◌, length, slice_index_or, sym, subst, arith}
use Rattle.std.proofs.lemmas.Option.{slice_get-get_or}
use Rattle.lw_bounds.proofs.Lessening.{HaveFallen, fallen_more}
use Rattle.lw_bounds.proofs.SideRows.{AreLowBy, low_more, low_parts}
use Rattle.lw_bounds.proofs.lowering.lower_all.Goals as goal

pub returns-clause-lowered : goal.returns-clause-lowered
returns-clause-lowered c =
    let l = c.loop-number in
    let plan = c.args.plan in
    let end : l.number ≡ length plan.groups.now = omega arith in
    low_parts plan.parts.now plan.groups.now c.args.one c.args.other c.args.least.now l.least c.requires.grouped (subst (AreLowBy plan.groups.now c.args.one c.args.other c.args.least.now l.least) end l.invariant.low)

pub lower_where-one_fell-requires-clause-group : goal.lower_where-one_fell-requires-clause-group
lower_where-one_fell-requires-clause-group c =
    let groups = c.args.plan.groups.now in
    let n = c.loop-number.number in
    let none = c.index-plan-number.result in
    c.requires.grouped.rules n (slice_index_or groups n none) (slice_get-get_or groups n none c.loop-number-test.true)

pub loop-number-preserved : goal.loop-number-preserved
loop-number-preserved c =
    let l = c.loop-number in
    let none = c.index-plan-number.result in
    let w = c.lower_where-one_fell in
    let groups = c.args.plan.groups.now in
    let old = c.args.least.now in
    let at = slice_get-get_or groups l.number none c.loop-number-test.true in
    record {
      low = low_more groups c.args.one c.args.other old l.least w.new.least l.number (slice_index_or groups l.number none) at w.ensures.lessened.no_more w.ensures.lowered l.invariant.low;
      fallen = subst (HaveFallen old w.new.least) (sym c.either-fell.ensures) (fallen_more old l.least w.new.least w.result l.fell w.ensures.lessened.falls w.ensures.lessened.same l.invariant.fallen);
    }
