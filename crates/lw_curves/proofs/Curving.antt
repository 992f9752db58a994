-- Settled points, row by row, are the curves.
use Rattle.std.proofs.Common.{◌≡◌, ℕ, ◌+◌, ◌<◌, ◌≤◌, length, List, Contains, Some, slice_get, Result, Ok, Err, IfErr, OnOk, IsErrAnd, refl, sym, ◌∙◌, subst, arith}
use Rattle.lw_graph.specs.Graphs.{IsGraph}
use Rattle.lw_laws.specs.Covers.{ArePatterns, time_of}
use Rattle.lw_curves.specs.declared.point.Point.{Point}
use Rattle.lw_curves.specs.declared.point.CurveFault.{CurveFault}
use Rattle.lw_curves.specs.declared.point.CurveFault.TheVariants.{Limit, Memory}
use Rattle.lw_choices.specs.Areas.{area_cost}
use Rattle.lw_choices.specs.Choices.{Choice, AreListedChoices}
use Rattle.lw_curves.specs.CurveTables.{point_of, IsRow, AreRows}
use Rattle.lw_choices.specs.Tasks.{Task, timing, area_of}
use Rattle.lw_curves.specs.Points.{ArePoints, IsCurve, AreCurves, AreTooMany, IsWhy, BoundCovers}
use Rattle.lw_curves.specs.Settling.{Spot, spot, AreApart, AreSettled, HasAtMost, HaveTooMany, IsStop, joint_cost}
use Rattle.lw_curves.proofs.Counting.{grouped, above, below_above, count_grouped, rows_grouped}
use Rattle.lw_curves.proofs.Exact.{cover_had, spot_is_point, point_is_spot}
use Rattle.lw_curves.proofs.InRange.{cost_in}
use Rattle.lw_choices.proofs.Lists.{get_some}

module _ (s : Task) (is_graph : IsGraph s.graph) (choices : List Choice) (are : AreListedChoices s choices) (patterns : ArePatterns (area_cost s.cells).pin_counts s.patterns) where
  module _ (now : ℕ) (spots : List Spot) (settled : AreSettled s now choices spots) (apart : AreApart spots) where
    row_points : (c horizon : ℕ) (row : List Point) → now ≤ horizon → IsRow spots c row → ArePoints s c horizon row
    row_points c horizon row le is = record {
      each = λ p in'.
          let has = is.each p in' in
          let low = settled.low (spot c p.time.0 p.area) has in
          (spot_is_point s is_graph choices are now spots settled is_graph.once patterns apart (spot c p.time.0 p.area) p has refl refl, omega arith);
      rising = is.rising;
    }

    row_curve : (c : ℕ) (row : List Point) → IsRow spots c row → IsCurve s c now row
    row_curve c row is = record {
      are = row_points c now row (omega arith) is;
      all = λ p point le. is.all (spot c p.time.0 p.area) (point_is_spot s is_graph choices are now spots settled is_graph.once patterns apart c p point le) refl;
    }

    pub rows_curves : (count : ℕ) (rows : List (List Point)) → count ≡ length s.graph.pairs → AreRows spots count 0 rows → AreCurves s now rows
    rows_curves count rows e each = record {
      one_each = let n = each.one_each in omega arith;
      each = λ c row at. row_curve c row (subst (λ d. IsRow spots d row) (from_none c) (each.each c row at));
    }
      where
        from_none : (c : ℕ) → ◌≡◌ {A = ℕ} (0 + c) c
        from_none c = omega arith

    pub rows_bound : (count : ℕ) (rows : List (List Point)) → count ≡ length s.graph.pairs → AreRows spots count 0 rows → BoundCovers s now rows
    rows_bound count rows e each c k by = at_spot (cover_had s is_graph choices are now spots settled is_graph.once patterns apart c now k by (omega arith))
      where
        at_spot : HasAtMost spots c (time_of (timing s) k) (area_of s k) → (row : List Point) × (p : Point) × (slice_get rows c ≡ Some row) × Contains row p × (p.time.0 ≤ time_of (timing s) k) × (p.area ≤ area_of s k)
        at_spot (l, has, f, lt, la) =
            let (d, cost, le, same) = settled.reached l has in
            let low : c < length s.graph.pairs = subst (λ b. b < length s.graph.pairs) f (cost_in s.graph is_graph (area_cost s.cells).pin_counts s.patterns (joint_cost s) cost) in
            let (row, at) = get_some rows c (let n = each.one_each in omega (arith, low, n, e)) in
            let none : ◌≡◌ {A = ℕ} (0 + c) c = omega arith in
            (row, point_of l, at, (each.each c row at).all l has (f ∙ sym none), lt, la)

  pub too_many : (horizon : ℕ) → HaveTooMany s choices horizon → AreTooMany s horizon
  too_many horizon have = record {
    points = grouped (above have.spots) have.spots;
    each = λ c row at. row_points have.now have.spots have.settled have.apart c horizon row have.in_time (rows_grouped (above have.spots) have.spots have.apart c row at);
    many = let n = count_grouped (above have.spots) have.spots (below_above have.spots) in let m = have.many in omega arith;
  }

pub err_is : {T : Type 0} (P : CurveFault → Type 0) (r : Result T CurveFault) (e : CurveFault) → IsErrAnd r (λ f. f ≡ e) → P e → IfErr r P
err_is P (Ok x) e same p = tt
err_is P (Err f) e same p = subst P (sym same) p

pub why_stopped : (s : Task) → IsGraph s.graph → (choices : List Choice) → AreListedChoices s choices → ArePatterns (area_cost s.cells).pin_counts s.patterns → (horizon : ℕ) (fault : CurveFault) → IsStop s choices horizon fault → IsWhy s horizon fault
why_stopped s is_graph choices are patterns horizon Limit have = too_many s is_graph choices are patterns horizon have
why_stopped s is_graph choices are patterns horizon Memory have = tt

-- what a last call answers, by cases
pub on_ok_by : {E : Type 0} (P : Type 0) (r : Result (Unit {0}) E) → ((u : Unit {0}) → r ≡ Ok u → P) → OnOk r P
on_ok_by P (Ok u) f = f u refl
on_ok_by P (Err e) f = tt

pub if_err_by : {T : Type 0} (P : CurveFault → Type 0) (r : Result T CurveFault) → ((e : CurveFault) → r ≡ Err e → P e) → IfErr r P
if_err_by P (Ok x) f = tt
if_err_by P (Err e) f = f e refl
