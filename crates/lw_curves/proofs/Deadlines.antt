-- The last point by a time has the least area of the covers that arrive by then.
use Rattle.std.proofs.Common.{◌≡◌, ℕ, ◌<◌, ◌≤◌, ◌⊎◌, inl, inr, List, Contains, Some, None, slice_get, sym, ap, ◌∙◌, subst, arith}
use Rattle.std.proofs.lemmas.Option.{same_Some}
use Rattle.std.proofs.lemmas.Bool.{cases_lt}
use Rattle.lw_laws.specs.Covers.{Cover}
use Rattle.lw_curves.specs.declared.point.Point.{Point}
use Rattle.lw_curves.specs.Lasts.{ArePointsRising, IsLastIn, IsLastPlace}
use Rattle.lw_choices.specs.Tasks.{Task, IsCoverBy, area_of, IsLeastAreaBy}
use Rattle.lw_curves.specs.Points.{IsPoint, AreCurves, BoundCovers}
use Rattle.lw_choices.proofs.Lists.{contained_at, at_contained}

module _ (s : Task) (horizon : ℕ) (curves : List (List Point)) (are : AreCurves s horizon curves) (bound : BoundCovers s horizon curves) (c d : ℕ) (row : List Point) (at : slice_get curves c ≡ Some row) (within : d ≤ horizon) where
  -- a point of the row that is no later than a cover and has no more area
  point_below : (k : Cover) → IsCoverBy s c d k → (p : Point) × Contains row p × (p.time.0 ≤ d) × (p.area ≤ area_of s k)
  point_below k by =
      let in_time = by.in_time in
      let (r, p, rt, in', lt, la) = bound c k (record { is_cover = by.is_cover; unfolds = by.unfolds; in_time = omega (arith, in_time, within) }) in
      (p, subst (λ xs. Contains xs p) (same_Some r row (sym rt ∙ at)) in', omega (arith, lt, in_time), la)

  pub none_least : IsLastPlace row 0 d None → IsLeastAreaBy s c d None
  none_least none k by =
      let (p, in', le, la) = point_below k by in
      let (i, pt) = contained_at row p in' in
      none i p pt (omega (arith, le))

  pub last_least : (place : ℕ) (p : Point) → IsLastIn row 0 d place → slice_get row place ≡ Some p → ArePointsRising row → IsLeastAreaBy s c d (Some p.area)
  last_least place p is pt rising =
      let same : is.point ≡ p = same_Some is.point p (sym is.at ∙ pt) in
      let low = is.in_time in
      let p_time : p.time.0 ≤ d = subst (λ (x : Point). x.time.0 ≤ d) same (omega (arith, low)) in
      let point = ((are.each c row at).are.each p (at_contained row place p pt)).0 in
      let ((found, by, area), least) = point.least in
      let in_time = by.in_time in (
        (found, record { is_cover = by.is_cover; unfolds = by.unfolds; in_time = omega (arith, in_time, p_time) }, area),
        λ k by'.
            let (q, in', le, la) = point_below k by' in
            let (j, qt) = contained_at row q in' in
            let no_later = is.last j q qt (omega (arith, le)) in
            let a = no_less q j qt point ((are.each c row at).are.each q in').0 (omega (arith, no_later)) (cases_lt j place) in
            omega (arith, a, la),
      )
    where
      -- an earlier point has no less area
      no_less : (q : Point) (j : ℕ) → slice_get row j ≡ Some q → IsPoint s c p → IsPoint s c q → j ≤ place → (j < place) ⊎ (place ≤ j) → p.area ≤ q.area
      no_less q j qt is_p is_q le (inl lt) =
          let time = rising j place q p lt qt pt in
          let falls = is_p.falls q.time.0 q.area time is_q.least in
          omega (arith, falls)
      no_less q j qt is_p is_q le (inr ge) =
          let same : j ≡ place = omega (arith, le, ge) in
          let e = ap (λ (x : Point). x.area) (same_Some q p (sym qt ∙ (ap (slice_get row) same ∙ pt))) in
          omega (arith, e)
