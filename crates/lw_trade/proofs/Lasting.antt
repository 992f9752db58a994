-- The last points of pins come before the point.
use Rattle.std.proofs.Common.{◌≡◌, ℕ, zero, suc, ◌+◌, ◌<◌, ◌≤◌, ◌⊎◌, inl, inr, min, length, List, [], ◌∷◌, Some, slice_get, refl, ap, sym, ◌∙◌, subst, arith}
use Rattle.std.specs.List.{AllZip}
use Rattle.std.proofs.lemmas.Option.{same_Some}
use Rattle.std.proofs.lemmas.Bool.{cases_lt}
use native.Mathlib.Decide.{ℕ_discrete}
use Rattle.lw_laws.specs.Covers.{latest, delays_of}
use Rattle.lw_laws.proofs.Delays.{length-delays_of}
use Rattle.lw_choices.specs.Areas.{most_area, area_at, total}
use Rattle.lw_curves.specs.Backing.{Held, IsHeld, IsBefore, IsPinOf, held_times, held_areas, IsGivenBy}
use Rattle.lw_choices.specs.Choices.{Choice}
use Rattle.lw_choices.specs.Choices.Part.{gate}
use Rattle.lw_curves.specs.CurveTables.{CurveLists, HaveWays}
use Rattle.lw_choices.specs.Tasks.{Task, timing}
use Rattle.lw_curves.specs.Points.{AreCurves}
use Rattle.lw_backtrace.specs.Sites.{IsLastBy}
use Rattle.lw_trade.specs.Trades.{HaveLastPins, PinsComeBefore}
use Rattle.lw_trade.proofs.Built.{held_point, held_falls}
use Rattle.lw_curves.proofs.Joint.{area_low}
use Rattle.lw_choices.proofs.Lists.{get_some}

-- one of them comes by the time, and then a last one does
module _ (c d t : ℕ) where
  abbrev None-by : List Held → Type 0
  None-by xs = (k : Held) → IsHeld xs k → k.spot.class ≡ c → k.spot.time + d ≤ t → ⊥

  none_more : (x : Held) (xs : List Held) → (x.spot.class ≡ c → x.spot.time + d ≤ t → ⊥) → None-by xs → None-by (x ∷ xs)
  none_more x xs not none k (zero, at) e le =
      let same = same_Some x k at in
      not (ap (λ (y : Held). y.spot.class) same ∙ e) (subst (λ (y : Held). y.spot.time + d ≤ t) (sym same) le)
  none_more x xs not none k (suc i, at) e le = none k (i, at) e le

  last_other : (x : Held) (xs : List Held) (l : Held) → (x.spot.class ≡ c → x.spot.time + d ≤ t → x.spot.time ≤ l.spot.time) → IsLastBy xs c d t l → IsLastBy (x ∷ xs) c d t l
  last_other x xs l low is = record {
    held_is = let (i, at) = is.held_is in (suc i, at);
    class_is = is.class_is;
    in_time = is.in_time;
    last = λ k (i, at) e le. last k i at e le;
  }
    where
      last : (k : Held) (i : ℕ) → slice_get (x ∷ xs) i ≡ Some k → k.spot.class ≡ c → k.spot.time + d ≤ t → k.spot.time ≤ l.spot.time
      last k zero at e le =
          let same = same_Some x k at in
          subst (λ (y : Held). y.spot.time ≤ l.spot.time) same (low (ap (λ (y : Held). y.spot.class) same ∙ e) (subst (λ (y : Held). y.spot.time + d ≤ t) (sym same) le))
      last k (suc i) at e le = is.last k (i, at) e le

  last_here : (x : Held) (xs : List Held) → x.spot.class ≡ c → x.spot.time + d ≤ t → ((k : Held) → IsHeld xs k → k.spot.class ≡ c → k.spot.time + d ≤ t → k.spot.time ≤ x.spot.time) → IsLastBy (x ∷ xs) c d t x
  last_here x xs class in_time low = record {
    held_is = (0, refl);
    class_is = class;
    in_time = in_time;
    last = λ k (i, at) e le. last k i at e le;
  }
    where
      last : (k : Held) (i : ℕ) → slice_get (x ∷ xs) i ≡ Some k → k.spot.class ≡ c → k.spot.time + d ≤ t → k.spot.time ≤ x.spot.time
      last k zero at e le = let same = ap (λ (y : Held). y.spot.time) (same_Some x k at) in omega arith
      last k (suc i) at e le = low k (i, at) e le

  last_or_none : (xs : List Held) → ((l : Held) × IsLastBy xs c d t l) ⊎ None-by xs
  last_or_none [] = inr (λ k (i, at) e le. cc)
  last_or_none (x ∷ xs) = by_class (ℕ_discrete x.spot.class c) (cases_lt t (x.spot.time + d)) (last_or_none xs)
    where
      by_class : Dec (x.spot.class ≡ c) → (t < x.spot.time + d) ⊎ (x.spot.time + d ≤ t) → ((l : Held) × IsLastBy xs c d t l) ⊎ None-by xs → ((l : Held) × IsLastBy (x ∷ xs) c d t l) ⊎ None-by (x ∷ xs)
      by_class (no ne) late (inl (l, is)) = inl (l, last_other x xs l (λ e le. absurd (ne e)) is)
      by_class (no ne) late (inr none) = inr (none_more x xs (λ e le. ne e) none)
      by_class (yes e) (inl late) (inl (l, is)) = inl (l, last_other x xs l (λ f le. absurd (omega (arith, late, le))) is)
      by_class (yes e) (inl late) (inr none) = inr (none_more x xs (λ f le. absurd (omega (arith, late, le))) none)
      by_class (yes e) (inr le) (inr none) = inl (x, last_here x xs e le (λ k in' f by. absurd (none k in' f by)))
      by_class (yes e) (inr le) (inl (l, is)) = by_time (cases_lt x.spot.time l.spot.time)
        where
          by_time : (x.spot.time < l.spot.time) ⊎ (l.spot.time ≤ x.spot.time) → ((l : Held) × IsLastBy (x ∷ xs) c d t l) ⊎ None-by (x ∷ xs)
          by_time (inl lt) = inl (l, last_other x xs l (λ f by. omega (arith, lt)) is)
          by_time (inr ge) = inl (x, last_here x xs e le (λ k in' f by. let low = is.last k in' f by in omega (arith, low, ge)))

  last_by : (xs : List Held) (k : Held) → IsHeld xs k → k.spot.class ≡ c → k.spot.time + d ≤ t → (l : Held) × IsLastBy xs c d t l
  last_by xs k in' e le = by_case (last_or_none xs)
    where
      by_case : ((l : Held) × IsLastBy xs c d t l) ⊎ None-by xs → (l : Held) × IsLastBy xs c d t l
      by_case (inl found) = found
      by_case (inr none) = absurd (none k in' e le)

module _ (s : Task) (horizon : ℕ) (curves : CurveLists) (ways : HaveWays s curves) (are : AreCurves s horizon curves.points) where
  -- a point of one class and time is one alone
  same_held : (k l : Held) → IsHeld ways.held k → IsHeld ways.held l → k.spot.class ≡ l.spot.class → k.spot.time ≡ l.spot.time → k ≡ l
  same_held k l in' also e t =
      let is = ways.backed k in' in
      let low : k.spot.class < length s.graph.pairs = subst (λ c. c < length s.graph.pairs) is.class_is (ways.choices.within k.choice is.by is.listed) in
      let rows = ways.rows in
      let (row, at) = get_some rows.rows k.spot.class (let m = rows.are.one_each in omega (arith, low, m)) in
      let none : ◌≡◌ {A = ℕ} (0 + k.spot.class) k.spot.class = omega arith in
      let (i, kt) = (rows.are.each k.spot.class row at).all k in' (sym none) in
      let (j, lt) = (rows.are.each k.spot.class row at).all l also (sym e ∙ sym none) in
      by_place row (rows.are.each k.spot.class row at).rising i j kt lt (cases_lt i j) (cases_lt j i)
    where
      by_place : (row : List Held) → ((i j : ℕ) (g h : Held) → i < j → slice_get row i ≡ Some g → slice_get row j ≡ Some h → g.spot.time < h.spot.time) → (i j : ℕ) → slice_get row i ≡ Some k → slice_get row j ≡ Some l → (i < j) ⊎ (j ≤ i) → (j < i) ⊎ (i ≤ j) → k ≡ l
      by_place row rising i j kt lt (inl less) y = let b = rising i j k l less kt lt in absurd (omega (arith, b, t))
      by_place row rising i j kt lt (inr x) (inl less) = let b = rising j i l k less lt kt in absurd (omega (arith, b, t))
      by_place row rising i j kt lt (inr x) (inr y) = let same : i ≡ j = omega (arith, x, y) in same_Some k l (sym kt ∙ (ap (slice_get row) same ∙ lt))

  less_later : (k l : Held) → IsHeld ways.held k → IsHeld ways.held l → k.spot.class ≡ l.spot.class → k.spot.time < l.spot.time → l.spot.area < k.spot.area
  less_later k l in' also e lt =
      let least = (held_point s horizon curves ways are k in').least in
      (held_point s horizon curves ways are l also).falls k.spot.time k.spot.area lt (subst (λ c. Rattle.lw_choices.specs.Tasks.IsLeastAreaBy s c k.spot.time (Some k.spot.area)) e least)

  held_low : (k : Held) → IsHeld ways.held k → k.spot.area ≤ most_area
  held_low k in' =
      let ((found, by, area), least) = (held_point s horizon curves ways are k in').least in
      let low = area_low s found in
      omega (arith, low, area)

  last_before : (h k l : Held) (p d : ℕ) → IsPinOf ways.held h p k → k.spot.area ≤ h.spot.area → k.spot.time + d ≤ h.spot.time → IsLastBy ways.held p d h.spot.time l → IsBefore l h
  last_before h k l p d (in', e, is) low by last = record {
    no_later = let le = last.in_time in omega (arith, le);
    less = by_case is.less (cases_lt k.spot.time l.spot.time) (cases_lt l.spot.time h.spot.time);
  }
    where
      class : k.spot.class ≡ l.spot.class
      class = e ∙ sym last.class_is

      later : k.spot.time ≤ l.spot.time
      later = last.last k in' e by

      no_more : l.spot.area ≤ k.spot.area
      no_more = held_falls s horizon curves ways are k l in' last.held_is class later

      by_case : (k.spot.time < h.spot.time) ⊎ ((k.spot.area < h.spot.area) ⊎ ((k.spot.area ≤ h.spot.area) × (k.order < h.order))) → (k.spot.time < l.spot.time) ⊎ (l.spot.time ≤ k.spot.time) → (l.spot.time < h.spot.time) ⊎ (h.spot.time ≤ l.spot.time) → (l.spot.time < h.spot.time) ⊎ ((l.spot.area < h.spot.area) ⊎ ((l.spot.area ≤ h.spot.area) × (l.order < h.order)))
      by_case less moved (inl lt) = inl lt
      by_case less (inl moved) (inr ge) = let f = less_later k l in' last.held_is class moved in inr (inl (omega (arith, f, low)))
      by_case (inl lt) (inr same) (inr ge) = absurd (omega (arith, lt, same, ge))
      by_case (inr (inl lt)) (inr same) (inr ge) = let a = no_more in inr (inl (omega (arith, a, lt)))
      by_case (inr (inr (le, o))) (inr same) (inr ge) =
          let t : k.spot.time ≡ l.spot.time = let le' = later in omega (arith, le', same) in
          let one = same_held k l in' last.held_is class t in
          inr (inr (subst (λ (x : Held). (x.spot.area ≤ h.spot.area) × (x.order < h.order)) one (le, o)))

  pins_last : (most : ℕ) (h : Held) (ds ps : List ℕ) (ks : List Held) → AllZip (IsPinOf ways.held h) ps ks → length ds ≡ length ps → latest ds (held_times ks) ≤ h.spot.time → total (held_areas ks) ≤ most → min most_area most ≤ h.spot.area → HaveLastPins ways.held h ds ps
  pins_last most h [] [] ks zip size in_time in_most in_area = tt
  pins_last most h [] (p ∷ ps) ks zip size in_time in_most in_area = absurd (omega (arith, size))
  pins_last most h (d ∷ ds) [] ks zip size in_time in_most in_area = absurd (omega (arith, size))
  pins_last most h (d ∷ ds) (p ∷ ps) [] zip size in_time in_most in_area = absurd zip
  pins_last most h (d ∷ ds) (p ∷ ps) (k ∷ ks) (pin, zip) size in_time in_most in_area =
      let small = held_low k pin.0 in
      let by : k.spot.time + d ≤ h.spot.time = omega (arith, in_time) in
      let (l, last) = last_by p d h.spot.time ways.held k pin.0 pin.1 by in
      ((l, last, last_before h k l p d pin (omega (arith, small, in_most, in_area)) by last), pins_last most h ds ps ks zip (omega (arith, size)) (omega (arith, in_time)) (omega (arith, in_most)) in_area)

pub pins_before : PinsComeBefore
pins_before s horizon curves ways are h c cell ps in' at =
    let is = ways.backed h in' in
    let same : is.by ≡ record { class = c; part = gate cell ps } = same_Some is.by (record { class = c; part = gate cell ps }) (sym is.listed ∙ at) in
    let (ks, zip, in_time, in_area) = subst (λ (x : Choice). IsGivenBy s ways.held h x.part) same is.given in
    let size = length-delays_of (timing s).delays cell (length ps) (ways.choices.each h.choice (record { class = c; part = gate cell ps }) at).pins in
    pins_last s horizon curves ways are (area_at s.cells cell + total (held_areas ks)) h (delays_of (timing s).delays cell) ps ks zip size in_time (omega arith) in_area
