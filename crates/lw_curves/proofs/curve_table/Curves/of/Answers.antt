use Rattle.std.proofs.Common.{◌≡◌, ◌<◌, ◌+◌, ◌-◌, ◌∙◌, ℕ, List, suc, Some, length, slice_get, slice_range, sym, ap, subst, arith}
use Rattle.lw_curves.specs.declared.point.Point.{Point}
use Rattle.lw_curves.specs.CurveTables.{CurveLists, rows_of}
use Rattle.lw_choices.proofs.Lists.{read_at}
use Rattle.lw_curves.proofs.Grouped.{lefts_in, left_low, left_falls, row_is}
use Rattle.lw_curves.proofs.curve_table.Curves.of.Goals as goal

pub index-requires : goal.index-requires
index-requires c =
    let lt = subst (λ (curves : CurveLists). c.args.class.0 < length curves.points) (sym c.self.view_is) c.requires in
    let in' = lefts_in c.self.inside.points.items c.self.inside.lefts.items c.args.class.0 lt in
    omega (arith, in')

pub overflow_sub-first : goal.overflow_sub-first
overflow_sub-first c =
    let lefts = c.self.inside.lefts.items in
    let lt = subst (λ (curves : CurveLists). c.args.class.0 < length curves.points) (sym c.self.view_is) c.requires in
    let in' = lefts_in c.self.inside.points.items lefts c.args.class.0 lt in
    let at = read_at lefts c.args.class.0 c.index.result.now (omega (arith, in')) c.index.ensures in
    let low = left_low (length c.self.inside.points.items) lefts c.args.class.0 c.index.result.now c.self.invariant.falling at in
    omega (arith, low, c.len-count.ensures)

pub index-requires-2 : goal.index-requires-2
index-requires-2 c =
    let lt = subst (λ (curves : CurveLists). c.args.class.0 < length curves.points) (sym c.self.view_is) c.requires in
    let in' = lefts_in c.self.inside.points.items c.self.inside.lefts.items c.args.class.0 lt in
    omega (arith, in')

pub overflow_sub-end : goal.overflow_sub-end
overflow_sub-end c =
    let lefts = c.self.inside.lefts.items in
    let lt = subst (λ (curves : CurveLists). c.args.class.0 < length curves.points) (sym c.self.view_is) c.requires in
    let in' = lefts_in c.self.inside.points.items lefts c.args.class.0 lt in
    let at = read_at lefts (c.args.class.0 + 1) c.index-2.result.now (omega (arith, in')) c.index-2.ensures in
    let low = left_low (length c.self.inside.points.items) lefts (c.args.class.0 + 1) c.index-2.result.now c.self.invariant.falling at in
    omega (arith, low, c.len-count.ensures)

pub part-requires-clause-first : goal.part-requires-clause-first
part-requires-clause-first c =
    let lefts = c.self.inside.lefts.items in
    let lt = subst (λ (curves : CurveLists). c.args.class.0 < length curves.points) (sym c.self.view_is) c.requires in
    let in' = lefts_in c.self.inside.points.items lefts c.args.class.0 lt in
    let one : ◌≡◌ {A = ℕ} (c.args.class.0 + 1) (suc c.args.class.0) = omega arith in
    let at = read_at lefts c.args.class.0 c.index.result.now (omega (arith, in')) c.index.ensures in
    let bt = read_at lefts (c.args.class.0 + 1) c.index-2.result.now (omega (arith, in')) c.index-2.ensures in
    let bt' = subst (λ k. slice_get lefts k ≡ Some c.index-2.result.now) one bt in
    let falls = left_falls (length c.self.inside.points.items) lefts c.args.class.0 c.index.result.now c.index-2.result.now c.self.invariant.falling at bt' in
    omega (arith, falls)

pub returns-clause-points : goal.returns-clause-points
returns-clause-points c =
    let lefts = c.self.inside.lefts.items in
    let points = c.self.inside.points.items in
    let lt = subst (λ (curves : CurveLists). c.args.class.0 < length curves.points) (sym c.self.view_is) c.requires in
    let in' = lefts_in points lefts c.args.class.0 lt in
    let one : ◌≡◌ {A = ℕ} (c.args.class.0 + 1) (suc c.args.class.0) = omega arith in
    let at = read_at lefts c.args.class.0 c.index.result.now (omega (arith, in')) c.index.ensures in
    let bt = read_at lefts (c.args.class.0 + 1) c.index-2.result.now (omega (arith, in')) c.index-2.ensures in
    let bt' = subst (λ k. slice_get lefts k ≡ Some c.index-2.result.now) one bt in
    let n : length points ≡ c.len-count.result = omega (arith, c.len-count.ensures) in
    let here = row_is points lefts c.args.class.0 c.index.result.now c.index-2.result.now at bt' in
    let there = subst (λ k. slice_get c.args.self.now.points c.args.class.0 ≡ Some (slice_range points (k - c.index.result.now) (k - c.index-2.result.now))) n (subst (λ (curves : CurveLists). slice_get curves.points c.args.class.0 ≡ Some (slice_range points (length points - c.index.result.now) (length points - c.index-2.result.now))) c.self.view_is here) in
    there ∙ ap (λ (r : List Point). Some r) (ap (λ (ps : List Point). slice_range ps (c.len-count.result - c.index.result.now) (c.len-count.result - c.index-2.result.now)) (sym c.as_slice.ensures.value) ∙ sym c.part.ensures)

pub returns-clause-rising : goal.returns-clause-rising
returns-clause-rising c =
    let lefts = c.self.inside.lefts.items in
    let points = c.self.inside.points.items in
    let lt = subst (λ (curves : CurveLists). c.args.class.0 < length curves.points) (sym c.self.view_is) c.requires in
    let in' = lefts_in points lefts c.args.class.0 lt in
    let one : ◌≡◌ {A = ℕ} (c.args.class.0 + 1) (suc c.args.class.0) = omega arith in
    let at = read_at lefts c.args.class.0 c.index.result.now (omega (arith, in')) c.index.ensures in
    let bt = read_at lefts (c.args.class.0 + 1) c.index-2.result.now (omega (arith, in')) c.index-2.ensures in
    let bt' = subst (λ k. slice_get lefts k ≡ Some c.index-2.result.now) one bt in
    let n : length points ≡ c.len-count.result = omega (arith, c.len-count.ensures) in
    let here = subst (λ k. slice_get (rows_of points lefts) c.args.class.0 ≡ Some (slice_range points (k - c.index.result.now) (k - c.index-2.result.now))) n (row_is points lefts c.args.class.0 c.index.result.now c.index-2.result.now at bt') in
    let same = ap (λ (ps : List Point). slice_range ps (c.len-count.result - c.index.result.now) (c.len-count.result - c.index-2.result.now)) (sym c.as_slice.ensures.value) ∙ sym c.part.ensures in
    c.self.invariant.rising c.args.class.0 c.part.result.now (here ∙ ap (λ (r : List Point). Some r) same)
