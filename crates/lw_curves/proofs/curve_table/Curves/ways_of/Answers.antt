use Rattle.std.proofs.Common.{◌≡◌, ◌<◌, ◌+◌, ◌-◌, ◌∙◌, ℕ, List, suc, None, Some, length, slice_get, slice_range, sym, ap, subst, arith}
use Rattle.lw_curves.specs.declared.point.Way.{Way}
use Rattle.lw_curves.specs.CurveTables.{CurveLists}
use Rattle.lw_choices.proofs.Lists.{read_at}
use Rattle.lw_curves.proofs.Grouped.{left_low, left_falls, no_row, row_is}
use Rattle.lw_curves.proofs.curve_table.Curves.ways_of.Goals as goal

pub returns-then-class-len : goal.returns-then-class-len
returns-then-class-len c =
    let none = no_row c.self.inside.ways.items c.self.inside.lefts.items c.args.class.0 (omega (arith, c.if-class-len.true, c.len.ensures)) in
    subst (λ (curves : CurveLists). slice_get curves.ways c.args.class.0 ≡ None) c.self.view_is none

pub index-requires : goal.index-requires
index-requires c = omega (arith, c.if-class-len.false, c.len.ensures)

pub overflow_sub-first : goal.overflow_sub-first
overflow_sub-first c =
    let lefts = c.self.inside.lefts.items in
    let in' : c.args.class.0 + 1 < length lefts = omega (arith, c.if-class-len.false, c.len.ensures) in
    let at = read_at lefts c.args.class.0 c.index.result.now (omega (arith, in')) c.index.ensures in
    let low = left_low (length c.self.inside.points.items) lefts c.args.class.0 c.index.result.now c.self.invariant.falling at in
    omega (arith, low, c.len-count.ensures)

pub index-requires-2 : goal.index-requires-2
index-requires-2 c = omega (arith, c.if-class-len.false, c.len.ensures)

pub overflow_sub-end : goal.overflow_sub-end
overflow_sub-end c =
    let lefts = c.self.inside.lefts.items in
    let in' : c.args.class.0 + 1 < length lefts = omega (arith, c.if-class-len.false, c.len.ensures) in
    let at = read_at lefts (c.args.class.0 + 1) c.index-2.result.now (omega (arith, in')) c.index-2.ensures in
    let low = left_low (length c.self.inside.points.items) lefts (c.args.class.0 + 1) c.index-2.result.now c.self.invariant.falling at in
    omega (arith, low, c.len-count.ensures)

pub part-requires-clause-first : goal.part-requires-clause-first
part-requires-clause-first c =
    let lefts = c.self.inside.lefts.items in
    let in' : c.args.class.0 + 1 < length lefts = omega (arith, c.if-class-len.false, c.len.ensures) in
    let one : ◌≡◌ {A = ℕ} (c.args.class.0 + 1) (suc c.args.class.0) = omega arith in
    let at = read_at lefts c.args.class.0 c.index.result.now (omega (arith, in')) c.index.ensures in
    let bt = read_at lefts (c.args.class.0 + 1) c.index-2.result.now (omega (arith, in')) c.index-2.ensures in
    let bt' = subst (λ k. slice_get lefts k ≡ Some c.index-2.result.now) one bt in
    let falls = left_falls (length c.self.inside.points.items) lefts c.args.class.0 c.index.result.now c.index-2.result.now c.self.invariant.falling at bt' in
    omega (arith, falls)

pub returns : goal.returns
returns c =
    let lefts = c.self.inside.lefts.items in
    let points = c.self.inside.ways.items in
    let in' : c.args.class.0 + 1 < length lefts = omega (arith, c.if-class-len.false, c.len.ensures) in
    let one : ◌≡◌ {A = ℕ} (c.args.class.0 + 1) (suc c.args.class.0) = omega arith in
    let at = read_at lefts c.args.class.0 c.index.result.now (omega (arith, in')) c.index.ensures in
    let bt = read_at lefts (c.args.class.0 + 1) c.index-2.result.now (omega (arith, in')) c.index-2.ensures in
    let bt' = subst (λ k. slice_get lefts k ≡ Some c.index-2.result.now) one bt in
    let n : length points ≡ c.len-count.result = omega (arith, c.len-count.ensures) in
    let here = row_is points lefts c.args.class.0 c.index.result.now c.index-2.result.now at bt' in
    let there = subst (λ k. slice_get c.args.self.now.ways c.args.class.0 ≡ Some (slice_range points (k - c.index.result.now) (k - c.index-2.result.now))) n (subst (λ (curves : CurveLists). slice_get curves.ways c.args.class.0 ≡ Some (slice_range points (length points - c.index.result.now) (length points - c.index-2.result.now))) c.self.view_is here) in
    there ∙ ap (λ (r : List Way). Some r) (ap (λ (ps : List Way). slice_range ps (c.len-count.result - c.index.result.now) (c.len-count.result - c.index-2.result.now)) (sym c.as_slice.ensures.value) ∙ sym c.part.ensures)
