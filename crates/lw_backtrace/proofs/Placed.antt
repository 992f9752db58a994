-- The last place of a row is that of the last point of its class.
use Rattle.std.proofs.Common.{◌≡◌, ℕ, ◌+◌, ◌<◌, ◌≤◌, ◌⊎◌, inl, inr, map, List, Some, None, slice_get, ap, sym, ◌∙◌, arith}
use Rattle.std.proofs.lemmas.Option.{same_Some}
use native.Mathlib.Nat.{eq-or-lt_of_le}
use Rattle.lw_curves.specs.declared.point.Point.{Point}
use Rattle.lw_curves.specs.Backing.{Held, IsHeld}
use Rattle.lw_curves.specs.CurveTables.{point_in, IsHeldRow}
use Rattle.lw_curves.specs.Lasts.{IsLastIn, IsLastPlace}
use Rattle.lw_backtrace.specs.Sites.{IsLastBy}
use Rattle.lw_curves.proofs.Grouped.{get_map, map_get}

module _ (held : List Held) (c : ℕ) (row : List Held) (is : IsHeldRow held c row) (delay time : ℕ) where
  pub placed_last : (place : ℕ) → IsLastIn (map point_in row) delay time place → (l : Held) × (slice_get row place ≡ Some l) × IsLastBy held c delay time l
  placed_last place last =
      let (l, at, e) = map_get point_in row place last.point last.at in
      let t : l.spot.time ≡ last.point.time.0 = ap (λ (p : Point). p.time.0) e in
      let (in', class) = is.each l (place, at) in
      let early = last.in_time in
      (l, at, record { held_is = in'; class_is = class; in_time = omega (arith, early, t); last = λ k has f le. later l at k (is.all k has f) le })
    where
      later : (l : Held) → slice_get row place ≡ Some l → (k : Held) → IsHeld row k → k.spot.time + delay ≤ time → k.spot.time ≤ l.spot.time
      later l at k (i, kt) le = by_place (eq-or-lt_of_le {n = i} {m = place} (last.last i (point_in k) (get_map point_in row i k kt) le))
        where
          by_place : (i ≡ place) ⊎ (i < place) → k.spot.time ≤ l.spot.time
          by_place (inl e) =
              let same = same_Some k l (sym kt ∙ (ap (slice_get row) e ∙ at)) in
              let t = ap (λ (x : Held). x.spot.time) same in
              omega (arith, t)
          by_place (inr lt) = let less = is.rising i place k l lt kt at in omega (arith, less)

  pub none_placed : IsLastPlace (map point_in row) delay time None → (k : Held) → IsHeld held k → k.spot.class ≡ c → k.spot.time + delay ≤ time → ⊥
  none_placed none k has e le =
      let (i, at) = is.all k has e in none i (point_in k) (get_map point_in row i k at) le
