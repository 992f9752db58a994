-- The last point of a class by a time has the least area of the covers that arrive by then.
use Rattle.std.proofs.Common.{◌≡◌, ℕ, zero, suc, ◌+◌, ◌<◌, ◌≤◌, ◌⊎◌, Bool, true, false, inl, inr, map, length, List, slice_get, refl, ap, sym, ◌∙◌, subst, arith}
use Rattle.std.proofs.lemmas.Bool.{cases_lt}
use Rattle.lw_laws.specs.Covers.{Cover, time_of, tree_of}
use Rattle.lw_laws.specs.Graphs.{Unfolds}
use Rattle.lw_laws.specs.Netlists.{Netlist}
use Rattle.lw_curves.specs.declared.point.Point.{Point}
use Rattle.lw_choices.specs.Areas.{most_area}
use Rattle.lw_curves.specs.Backing.{Held, IsHeld}
use Rattle.lw_curves.specs.CurveTables.{CurveLists, HaveWays, point_in}
use Rattle.lw_choices.specs.Tasks.{Task, timing, IsCoverBy, area_of}
use Rattle.lw_curves.specs.Points.{IsPoint, AreCurves}
use Rattle.lw_trade.specs.Traded.{HasLeastAreaBy}
use Rattle.lw_backtrace.specs.Sites.{Site, IsLastBy, IsPinNet, IsNetOfPoint}
use Rattle.lw_trade.specs.Trades.{IsBuilt}
use Rattle.lw_backtrace.specs.Walks.{IsRootNet}
use Rattle.lw_trade.proofs.Built.{built_nets, held_point, net_cover}
use Rattle.lw_curves.proofs.Grouped.{map_get}
use Rattle.lw_curves.proofs.Joint.{area_low}
use Rattle.lw_choices.proofs.Lists.{contained_at, get_some}

module _ (s : Task) (horizon : ℕ) (curves : CurveLists) (ways : HaveWays s curves) (are : AreCurves s horizon curves.points) where
  -- a point of a class is among those that are held
  point_held : (c : ℕ) (p : Point) → c < length s.graph.pairs → IsPoint s c p → p.time.0 ≤ horizon → (h : Held) × IsHeld ways.held h × (h.spot.class ≡ c) × (h.spot.time ≡ p.time.0)
  point_held c p low is le =
      let rows = ways.rows in
      let (row, at) = get_some curves.points c (let n = are.one_each in omega (arith, low, n)) in
      let (i, here) = contained_at row p ((are.each c row at).all p is le) in
      let (held, ht, e) = map_get (map point_in) rows.rows c row (ap (λ ps. slice_get ps c) (sym rows.points_are) ∙ at) in
      let (h, hh, f) = map_get point_in held i p (ap (λ ps. slice_get ps i) e ∙ here) in
      let (has, class) = (rows.are.each c held ht).each h (i, hh) in
      let none : ◌≡◌ {A = ℕ} (0 + c) c = omega arith in
      (h, has, class ∙ none, ap (λ (x : Point). x.time.0) f)

  module _ (l : Held) (c t : ℕ) (low : c < length s.graph.pairs) (last : IsLastBy ways.held c 0 t l) (within : t ≤ horizon) where
    by_point : IsPoint s c (point_in l)
    by_point = subst (λ d. IsPoint s d (point_in l)) last.class_is (held_point s horizon curves ways are l last.held_is)

    in_all : (k' : Cover) (at time : ℕ) → time ≤ at → at ≤ t → IsCoverBy s c time k' → IsCoverBy s c t k'
    in_all k' at time le in_time by' =
        let b = by'.in_time in
        record { is_cover = by'.is_cover; unfolds = by'.unfolds; in_time = omega (arith, in_time, b, le) }

    -- no cover of less area arrives by the time, where no cover of less area and no earlier one of the same area does
    module _ (k : Cover) (by : IsCoverBy s c t k) (less : (k' : Cover) → IsCoverBy s c t k' → area_of s k' < area_of s k → l.spot.area ≤ area_of s k') (sooner : (k' : Cover) → IsCoverBy s c t k' → area_of s k' ≡ area_of s k → time_of (timing s) k' < time_of (timing s) k → l.spot.area ≤ area_of s k') where
      abbrev at : ℕ
      at = time_of (timing s) k

      least : area_of s k < l.spot.area → (k' : Cover) → IsCoverBy s c at k' → (area_of s k' < area_of s k) ⊎ (area_of s k ≤ area_of s k') → area_of s k ≤ area_of s k'
      least small k' by' (inr le) = le
      least small k' by' (inl lt') = let f = less k' (in_all k' at at (omega arith) by.in_time by') lt' in absurd (omega (arith, f, lt', small))

      falls : area_of s k < l.spot.area → (time' area' : ℕ) → time' < at → (k' : Cover) → IsCoverBy s c time' k' → area_of s k' ≡ area' → (area_of s k < area') ⊎ (area' ≤ area_of s k) → (area_of s k' < area_of s k) ⊎ (area_of s k ≤ area_of s k') → area_of s k < area'
      falls small time' area' earlier k' by' same (inl lt') y = lt'
      falls small time' area' earlier k' by' same (inr le) (inl lt') = let f = less k' (in_all k' at time' (omega arith) by.in_time by') lt' in absurd (omega (arith, f, lt', small))
      falls small time' area' earlier k' by' same (inr le) (inr ge) =
          let in' = by'.in_time in
          let f = sooner k' (in_all k' at time' (omega arith) by.in_time by') (omega (arith, same, le, ge)) (omega (arith, in', earlier)) in
          absurd (omega (arith, f, same, le, small))

      point : area_of s k < l.spot.area → IsPoint s c (record { time = record { 0 = at }; area = area_of s k })
      point small = record {
        least = (
          (k, record { is_cover = by.is_cover; unfolds = by.unfolds; in_time = omega arith }, refl),
          λ k' by'. least small k' by' (cases_lt (area_of s k') (area_of s k)),
        );
        falls = λ time' area' earlier ((k', by', same), low'). falls small time' area' earlier k' by' same (cases_lt (area_of s k) area') (cases_lt (area_of s k') (area_of s k));
      }

      by_area : (area_of s k < l.spot.area) ⊎ (l.spot.area ≤ area_of s k) → l.spot.area ≤ area_of s k
      by_area (inr le) = le
      by_area (inl small) =
          let is = point small in
          let in_time = by.in_time in
          let (h, has, class, when) = point_held c (record { time = record { 0 = at }; area = area_of s k }) low is (omega (arith, in_time, within)) in
          let no_later = last.last h has class (omega (arith, when, in_time)) in
          by_point.least.1 k (record { is_cover = by.is_cover; unfolds = by.unfolds; in_time = omega (arith, when, no_later) })

      not_less : l.spot.area ≤ area_of s k
      not_less = by_area (cases_lt (area_of s k) l.spot.area)

    none_less : (area : ℕ) → ((k : Cover) → IsCoverBy s c t k → area_of s k < area → l.spot.area ≤ area_of s k) → (time : ℕ) → (k : Cover) → IsCoverBy s c t k → area_of s k ≡ area → time_of (timing s) k < time → l.spot.area ≤ area_of s k
    none_less area less zero k by e lt = absurd (omega arith)
    none_less area less (suc time) k by e lt =
        not_less k by (λ k' by' lt'. less k' by' (omega (arith, lt', e))) (λ k' by' same lt'. none_less area less time k' by' (same ∙ e) (omega (arith, lt, lt')))

    below_next : (area : ℕ) (k : Cover) → (area_of s k < area → l.spot.area ≤ area_of s k) → (area_of s k ≡ area → l.spot.area ≤ area_of s k) → area_of s k < suc area → (area_of s k < area) ⊎ (area ≤ area_of s k) → l.spot.area ≤ area_of s k
    below_next area k less same lt (inl x) = less x
    below_next area k less same lt (inr ge) = same (omega (arith, lt, ge))

    none_below : (area : ℕ) (k : Cover) → IsCoverBy s c t k → area_of s k < area → l.spot.area ≤ area_of s k
    none_below zero k by lt = absurd (omega arith)
    none_below (suc area) k by lt =
        below_next area k (none_below area k by) (λ e. none_less area (none_below area) (suc (time_of (timing s) k)) k by e (omega arith)) lt (cases_lt (area_of s k) area)

    pub lowest : (k : Cover) → IsCoverBy s c t k → l.spot.area ≤ area_of s k
    lowest k by = none_below (suc (area_of s k)) k by (omega arith)

-- the net of a root in a netlist that is built from points
module _ (s : Task) (horizon : ℕ) (curves : CurveLists) (ways : HaveWays s curves) (are : AreCurves s horizon curves.points) (sites : List Site) (n : Netlist) (built : IsBuilt s curves.choices ways.held sites n) (c t net : ℕ) (low : c < length s.graph.pairs) (within : t ≤ horizon) where
  -- a cover of a point of the class in time
  by_then : (h : Held) → h.spot.class ≡ c → h.spot.time + 0 ≤ t → (k : Cover) → IsCoverBy s h.spot.class h.spot.time k → IsCoverBy s c t k
  by_then h class le k is =
      let a = is.in_time in
      record { is_cover = is.is_cover; unfolds = subst (λ d. Unfolds s.graph (tree_of k) d) class is.unfolds; in_time = omega (arith, a, le) }

  -- that of the last point
  exact_net : (l : Held) → IsLastBy ways.held c 0 t l → IsNetOfPoint s sites true l net → HasLeastAreaBy s n c t net
  exact_net l last net_of =
      let k = built_nets s horizon curves ways sites n are built l net last.held_is net_of in
      let by = by_then l last.class_is last.in_time k.by k.is_cover in
      record {
        by = k.by;
        stands = k.stands;
        is_cover = by;
        least = ((k.by, by, refl), λ o other. let le = lowest s horizon curves ways are l c t low last within o other in let e = k.area_is in omega (arith, le, e));
      }

  -- that of any in time, where the last one has the greatest area
  shared_net : (l : Held) → IsLastBy ways.held c 0 t l → most_area ≤ l.spot.area → IsPinNet s ways.held sites false c 0 t net → HasLeastAreaBy s n c t net
  shared_net l last cut pin =
      let (k, stands, is) = net_cover s curves.choices ways.choices ways.held ways.backed sites n built pin.own pin.point net pin.net_of in
      let by = by_then pin.point pin.by.class_is pin.by.in_time k is in
      let most = area_low s k in
      record {
        by = k;
        stands = stands;
        is_cover = by;
        least = ((k, by, refl), λ o other. let le = lowest s horizon curves ways are l c t low last within o other in omega (arith, le, cut, most));
      }

  pub root_net : IsRootNet s ways.held sites c t net → HasLeastAreaBy s n c t net
  root_net root = by_mode root.exact root.is root.cut
    where
      by_mode : (exact : Bool) → IsPinNet s ways.held sites exact c 0 t net → (exact ≡ false → (l : Held) × IsLastBy ways.held c 0 t l × (most_area ≤ l.spot.area)) → HasLeastAreaBy s n c t net
      by_mode true pin cut =
          let (own, last) = pin.last refl in
          exact_net pin.point last (subst (λ (b : Bool). IsNetOfPoint s sites b pin.point net) own pin.net_of)
      by_mode false pin cut =
          let (l, last, most) = cut refl in
          shared_net l last most pin
