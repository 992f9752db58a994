-- No cycle is behind a point: its pins' points come before it.
use Rattle.std.proofs.Common.{◌≡◌, ℕ, zero, suc, ◌+◌, ◌<◌, ◌≤◌, ◌⊎◌, Bool, inl, inr, length, List, [], ◌∷◌, Some, slice_get, ap, sym, ◌∙◌, subst, arith}
use Rattle.std.proofs.lemmas.Bool.{cases_lt}
use Rattle.std.proofs.lemmas.Option.{slice_get_within}
use Rattle.lw_dag.specs.Graphs.{AreHeights, fanins_at, height_at}
use Rattle.lw_curves.specs.Backing.{Held, IsHeld, IsBefore}
use Rattle.lw_choices.specs.Tasks.{Task}
use Rattle.lw_backtrace.specs.Sites.{Site, IsPointBy, IsLastBy, IsNetOfPoint, HavePinNets}
use Rattle.lw_trade.specs.Trades.{HaveLastPins}
use Rattle.lw_choices.proofs.Lists.{contained_at, get_some}

module _ (s : Task) (held : List Held) (sites : List Site) (h : Held) where
  -- a pin's net is an input's, or that of a point that comes before
  abbrev pub IsEarlier : ℕ → Type 0
  IsEarlier net =
      (net < length s.graph.leaves) ⊎ ((j : ℕ) × (site : Site) × (slice_get sites j ≡ Some site) × (net ≡ length s.graph.leaves + j) × IsBefore site.point h)

  -- a point in time is the last one, or earlier
  in_time_before : ((k l : Held) → IsHeld held k → IsHeld held l → k.spot.class ≡ l.spot.class → k.spot.time ≡ l.spot.time → k ≡ l) → (p d : ℕ) (l k : Held) → IsPointBy held p d h.spot.time l → IsLastBy held p d h.spot.time k → IsBefore k h → IsBefore l h
  in_time_before same p d l k by last before = by_time (cases_lt l.spot.time k.spot.time)
    where
      late : l.spot.time ≤ k.spot.time
      late = last.last l by.held_is by.class_is by.in_time

      by_time : (l.spot.time < k.spot.time) ⊎ (k.spot.time ≤ l.spot.time) → IsBefore l h
      by_time (inl lt) =
          let le = before.no_later in
          record { no_later = omega (arith, lt, le); less = inl (omega (arith, lt, le)) }
      by_time (inr ge) =
          let le = late in
          let one = same k l last.held_is by.held_is (last.class_is ∙ sym by.class_is) (omega (arith, ge, le)) in
          subst (λ (x : Held). IsBefore x h) one before

  pin_earlier : ((k l : Held) → IsHeld held k → IsHeld held l → k.spot.class ≡ l.spot.class → k.spot.time ≡ l.spot.time → k ≡ l) → (p d : ℕ) (l k : Held) (own : Bool) (net : ℕ) → IsPointBy held p d h.spot.time l → IsNetOfPoint s sites own l net → IsLastBy held p d h.spot.time k → IsBefore k h → IsEarlier net
  pin_earlier same p d l k own net by (inl (at, start)) last before = inl (slice_get_within s.graph.leaves net l.spot.class at)
  pin_earlier same p d l k own net by (inr (none, j, at, e)) last before =
      inr (j, record { point = l; exact = own }, at, e, in_time_before same p d l k by last before)

  pub pins_earlier : ((k l : Held) → IsHeld held k → IsHeld held l → k.spot.class ≡ l.spot.class → k.spot.time ≡ l.spot.time → k ≡ l) → (exact : Bool) (ds ps nets : List ℕ) → HavePinNets s held sites exact h.spot.time ds ps nets → HaveLastPins held h ds ps → (i net : ℕ) → slice_get nets i ≡ Some net → IsEarlier net
  pins_earlier same exact [] [] [] have last i net at = cc
  pins_earlier same exact [] [] (m ∷ ms) have last i net at = absurd have
  pins_earlier same exact [] (p ∷ ps) [] have last i net at = absurd have
  pins_earlier same exact [] (p ∷ ps) (m ∷ ms) have last i net at = absurd have
  pins_earlier same exact (d ∷ ds) [] [] have last i net at = absurd have
  pins_earlier same exact (d ∷ ds) [] (m ∷ ms) have last i net at = absurd have
  pins_earlier same exact (d ∷ ds) (p ∷ ps) [] have last i net at = absurd have
  pins_earlier same exact (d ∷ ds) (p ∷ ps) (m ∷ ms) (pin, have) ((k, other, before), last) zero net at =
      subst IsEarlier (same_number at) (pin_earlier same p d pin.point k pin.own m pin.by pin.net_of other before)
    where
      same_number : Some m ≡ Some net → m ≡ net
      same_number e = cc
  pins_earlier same exact (d ∷ ds) (p ∷ ps) (m ∷ ms) (first, have) (other, last) (suc i) net at =
      pins_earlier same exact ds ps ms have last i net at

-- nodes whose fan-ins are inputs or of points that come before have heights
module _ (s : Task) (held : List Held) (sites : List Site) (graph : List (List ℕ)) (one_row : length graph ≡ length sites) (earlier : (j : ℕ) (site : Site) → slice_get sites j ≡ Some site → (i net : ℕ) → slice_get (fanins_at graph j) i ≡ Some net → IsEarlier s held sites site.point net) (heights : List ℕ) (are : AreHeights (length s.graph.leaves) graph heights) where
  abbrev m : ℕ
  m = length s.graph.leaves

  abbrev IsHigh : ℕ → Type 0
  IsHigh j = 0 < height_at heights (m + j)

  step : (h : Site) (j : ℕ) → slice_get sites j ≡ Some h → ((l : Site) (i : ℕ) → slice_get sites i ≡ Some l → IsBefore l.point h.point → IsHigh i) → IsHigh j
  step h j at rest = by_height (cases_lt 0 (height_at heights (m + j)))
    where
      low : j < length graph
      low = let lt = slice_get_within sites j h at in omega (arith, lt, one_row)

      stuck : (net : ℕ) → height_at heights net ≡ 0 → IsEarlier s held sites h.point net → ⊥
      stuck net none (inl lt) = let one = are.known.given_ones net lt in absurd (omega (arith, one, none))
      stuck net none (inr (i, l, bt, e, before)) =
          let high = rest l i bt before in
          let same = ap (height_at heights) e in
          absurd (omega (arith, high, same, none))

      by_height : (0 < height_at heights (m + j)) ⊎ (height_at heights (m + j) ≤ 0) → IsHigh j
      by_height (inl lt) = lt
      by_height (inr le) =
          let is = are.stuck j low (omega (arith, le)) in
          let (i, it) = contained_at (fanins_at graph j) is.signal is.among in
          absurd (stuck is.signal is.open_there (earlier j h at i is.signal it))

  abbrev Up : (Held → Type 0) → Type 0
  Up P = (h : Site) (j : ℕ) → slice_get sites j ≡ Some h → P h.point → IsHigh j

  by_case : (t a : ℕ) → Up (λ h. h.spot.time < t) → Up (λ h. (h.spot.time ≤ t) × (h.spot.area < a)) → (o : ℕ) → Up (λ h. (h.spot.time ≤ t) × (h.spot.area ≤ a) × (h.order < o)) → (h : Held) → h.spot.time ≤ t → h.spot.area ≤ a → h.order ≤ o → (l : Site) (i : ℕ) → slice_get sites i ≡ Some l → l.point.spot.time ≤ h.spot.time → (l.point.spot.time < h.spot.time) ⊎ ((l.point.spot.area < h.spot.area) ⊎ ((l.point.spot.area ≤ h.spot.area) × (l.point.order < h.order))) → IsHigh i
  by_case t a times areas o orders h lt la lo l i bt le (inl less) = times l i bt (omega (arith, less, lt))
  by_case t a times areas o orders h lt la lo l i bt le (inr (inl less)) = areas l i bt (omega (arith, le, lt), omega (arith, less, la))
  by_case t a times areas o orders h lt la lo l i bt le (inr (inr (la', less))) = orders l i bt (omega (arith, le, lt), omega (arith, la, la'), omega (arith, less, lo))

  by_order : (t a : ℕ) → Up (λ h. h.spot.time < t) → Up (λ h. (h.spot.time ≤ t) × (h.spot.area < a)) → (o : ℕ) → Up (λ h. (h.spot.time ≤ t) × (h.spot.area ≤ a) × (h.order < o))
  by_order t a times areas zero h j at (lt, la, lo) = absurd (omega arith)
  by_order t a times areas (suc o) h j at (lt, la, lo) =
      step h j at (λ l i bt before. by_case t a times areas o (by_order t a times areas o) h.point lt la (omega (arith, lo)) l i bt before.no_later before.less)

  by_area : (t : ℕ) → Up (λ h. h.spot.time < t) → (a : ℕ) → Up (λ h. (h.spot.time ≤ t) × (h.spot.area < a))
  by_area t times zero h j at (lt, la) = absurd (omega arith)
  by_area t times (suc a) h j at (lt, la) = by_order t a times (by_area t times a) (suc h.point.order) h j at (lt, omega (arith, la), omega arith)

  by_time : (t : ℕ) → Up (λ h. h.spot.time < t)
  by_time zero h j at lt = absurd (omega arith)
  by_time (suc t) h j at lt = by_area t (by_time t) (suc h.point.spot.area) h j at (omega (arith, lt), omega arith)

  pub all_high : (j : ℕ) → j < length graph → IsHigh j
  all_high j lt = let (h, at) = get_some sites j (omega (arith, lt, one_row)) in by_time (suc h.point.spot.time) h j at (omega arith)
