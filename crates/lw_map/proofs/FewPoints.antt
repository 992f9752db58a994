-- Where curves have few points, no classes have too many.
use Rattle.std.proofs.Common.{ℕ, zero, suc, ◌<◌, ◌≤◌, ◌≡◌, ◌⊎◌, inl, inr, List, [], ◌∷◌, length, Some, None, slice_get, refl, ap, subst, arith}
use Rattle.std.specs.List.{AllZip}
use Rattle.lw_pool.specs.declared.id.NetId.{NetId}
use Rattle.lw_fixed.specs.declared.micro.Micro.{Micro}
use Rattle.lw_laws.specs.Listings.{listing_of}
use Rattle.lw_laws.specs.Headline.{HasLeastArrival}
use Rattle.lw_laws.proofs.ClassLaws.{graphs_once}
use Rattle.lw_laws.proofs.Listed.{occurring_is_listing}
use Rattle.lw_net.specs.Networks.{NetworkParts}
use Rattle.lw_net.specs.Plain.{plain}
use Rattle.lw_genlib.specs.Cells.{CellParts}
use Rattle.lw_genlib.specs.Tables.{timing_of}
use Rattle.lw_pattern.specs.Libraries.{library_patterns}
use Rattle.lw_curves.specs.declared.point.Point.{Point}
use Rattle.lw_choices.specs.Tasks.{Task, task}
use Rattle.lw_curves.specs.Points.{ArePoints, AreCurves, AreTooMany, BoundCovers, point_count, most_points}
use Rattle.lw_choices.proofs.Lists.{contained_at, at_contained}
use Rattle.lw_map.specs.declared.choices.Choices.{Choices}
use Rattle.lw_map.specs.Choices.{AreChoicesOf}
use Rattle.lw_map.specs.Options.{Options, plain_options}
use Rattle.lw_map.specs.Trading.{AreEarliest, HasTooManyPoints, latest_of}

-- no point stands before an earlier one
abbrev Rising : List Point → Type 0
Rising ps = (i j : ℕ) (p q : Point) → i < j → slice_get ps i ≡ Some p → slice_get ps j ≡ Some q → p.time.0 < q.time.0

abbrev Among : List Point → List Point → Type 0
Among ps row = (i : ℕ) (p : Point) → slice_get ps i ≡ Some p → (k : ℕ) × (slice_get row k ≡ Some p)

rising_tail : (p : Point) (ps : List Point) → Rising (p ∷ ps) → Rising ps
rising_tail p ps up i j q r lt at bt = up (suc i) (suc j) q r (omega (arith, lt)) at bt

-- those later than the first of a row are behind it
behind : (r : Point) (row ps : List Point) → Among ps (r ∷ row) → ((i : ℕ) (p : Point) → slice_get ps i ≡ Some p → r.time.0 < p.time.0) → Among ps row
behind r row ps among late i p at = by_place (among i p at)
  where
    by_place : (k : ℕ) × (slice_get (r ∷ row) k ≡ Some p) → (k : ℕ) × (slice_get row k ≡ Some p)
    by_place (zero, e) = let same : r ≡ p = cc in let lt = late i p at in absurd (omega (arith, lt, ap (λ (q : Point). q.time.0) same))
    by_place (suc k, e) = (k, e)

no_longer : (row ps : List Point) → Rising row → Rising ps → Among ps row → length ps ≤ length row
no_longer row [] up rise among = omega arith
no_longer [] (p ∷ ps) up rise among = let (k, e) = among 0 p refl in cc
no_longer (r ∷ row) (p ∷ ps) up rise among =
    by_place (λ qs rises within. no_longer row qs (rising_tail r row up) rises within) (among 0 p refl)
  where
    after : (i : ℕ) (q : Point) → slice_get (p ∷ ps) i ≡ Some q → r.time.0 < p.time.0 → r.time.0 < q.time.0
    after zero q at first = let same : p ≡ q = cc in omega (arith, first, ap (λ (x : Point). x.time.0) same)
    after (suc i) q at first = let lt = rise 0 (suc i) p q (omega arith) refl at in omega (arith, first, lt)

    by_place : ((qs : List Point) → Rising qs → Among qs row → length qs ≤ length row) → (k : ℕ) × (slice_get (r ∷ row) k ≡ Some p) → length (p ∷ ps) ≤ length (r ∷ row)
    by_place shorter (zero, e) =
        let same : r ≡ p = cc in
        let late : (i : ℕ) (q : Point) → slice_get ps i ≡ Some q → r.time.0 < q.time.0 = λ i q at. (let lt = rise 0 (suc i) p q (omega arith) refl at in omega (arith, lt, ap (λ (x : Point). x.time.0) same)) in
        let ih = shorter ps (rising_tail p ps rise) (behind r row ps (λ i q at. among (suc i) q at) late) in
        omega (arith, ih)
    by_place shorter (suc k, e) =
        let first = up 0 (suc k) r p (omega arith) refl e in
        let ih = shorter (p ∷ ps) rise (behind r row (p ∷ ps) among (λ i q at. after i q at first)) in
        omega (arith, ih)

-- lists of which each is no longer than the one in its place are no longer together
no_more : (xs bs : List (List Point)) → ((c : ℕ) (ps : List Point) → slice_get xs c ≡ Some ps → (length ps ≡ 0) ⊎ ((row : List Point) × (slice_get bs c ≡ Some row) × (length ps ≤ length row))) → point_count xs ≤ point_count bs
no_more [] bs each = omega arith
no_more (ps ∷ xs) [] each = by_first (no_more xs [] (λ c qs at. each (suc c) qs at)) (each 0 ps refl)
  where
    by_first : point_count xs ≤ 0 → (length ps ≡ 0) ⊎ ((row : List Point) × (None ≡ Some row) × (length ps ≤ length row)) → point_count (ps ∷ xs) ≤ 0
    by_first rest (inl e) = omega (arith, e, rest)
    by_first rest (inr (row, e, le)) = cc
no_more (ps ∷ xs) (row ∷ bs) each = by_first (no_more xs bs (λ c qs at. each (suc c) qs at)) (each 0 ps refl)
  where
    by_first : point_count xs ≤ point_count bs → (length ps ≡ 0) ⊎ ((other : List Point) × (slice_get (row ∷ bs) 0 ≡ Some other) × (length ps ≤ length other)) → point_count (ps ∷ xs) ≤ point_count (row ∷ bs)
    by_first rest (inl e) = omega (arith, e, rest)
    by_first rest (inr (other, e, le)) = let same : row ≡ other = cc in omega (arith, le, rest, ap (λ (r : List Point). length r) same)

module _ (s : Task) (horizon : ℕ) (curves : List (List Point)) (are : AreCurves s horizon curves) (bound : BoundCovers s horizon curves) where
  row_within : (c : ℕ) (ps : List Point) → ArePoints s c horizon ps → (length ps ≡ 0) ⊎ ((row : List Point) × (slice_get curves c ≡ Some row) × (length ps ≤ length row))
  row_within c [] points = inl refl
  row_within c (p ∷ ps) points =
      let (point, low) = points.each p (at_contained (p ∷ ps) 0 p refl) in
      let (k, by, area) = point.least.0 in
      let in_time = by.in_time in
      let (row, q, at, there, soon, less) = bound c k (record { is_cover = by.is_cover; unfolds = by.unfolds; in_time = omega (arith, in_time, low) }) in
      let curve = are.each c row at in
      let among : Among (p ∷ ps) row = λ i r here. (let (is, less) = points.each r (at_contained (p ∷ ps) i r here) in contained_at row r (curve.all r is less)) in
      inr (row, at, no_longer row (p ∷ ps) curve.are.rising points.rising among)

  pub not_too_many : point_count curves ≤ most_points → AreTooMany s horizon → ⊥
  not_too_many few many =
      let le = no_more many.points curves (λ c ps at. row_within c ps (many.each c ps at)) in
      let m = many.many in
      omega (arith, le, few, m)

module _ (options : Options) (cells : List CellParts) (net : NetworkParts) (starts : List Micro) where
  least_once : (s d e : ℕ) → HasLeastArrival options.mode options.width (plain net) (library_patterns cells) (timing_of cells starts) s d → HasLeastArrival options.mode options.width (plain net) (library_patterns cells) (timing_of cells starts) s e → d ≡ e
  least_once s d e a b =
      let (k, k_is, k_tree, k_time) = a.attained in
      let (l, l_is, l_tree, l_time) = b.attained in
      let one = a.least l l_is l_tree in
      let two = b.least k k_is k_tree in
      omega (arith, one, two, k_time, l_time)

  earliest_once : (outputs : List NetId) (ds es : List ℕ) → AllZip (λ (output : NetId) (d : ℕ). HasLeastArrival options.mode options.width (plain net) (library_patterns cells) (timing_of cells starts) output.0 d) outputs ds → AllZip (λ (output : NetId) (d : ℕ). HasLeastArrival options.mode options.width (plain net) (library_patterns cells) (timing_of cells starts) output.0 d) outputs es → ds ≡ es
  earliest_once [] [] [] a b = refl
  earliest_once [] [] (e ∷ es) a b = absurd b
  earliest_once [] (d ∷ ds) es a b = absurd a
  earliest_once (o ∷ outputs) [] es a b = absurd a
  earliest_once (o ∷ outputs) (d ∷ ds) [] a b = absurd b
  earliest_once (o ∷ outputs) (d ∷ ds) (e ∷ es) (x, a) (y, b) =
      let first = least_once o.0 d e x y in
      let rest = earliest_once outputs ds es a b in
      (λ i. first i ∷ rest i)

-- where the curves up to the latest time have few points, so has each graph of the network's forms
pub few_points : (net : NetworkParts) (c : Choices) → AreChoicesOf net c → (cells : List CellParts) (starts : List Micro) (deadline : Micro) (times : List ℕ) → AreEarliest (plain_options c.options) cells net starts times → (curves : List (List Point)) → AreCurves (task c.graph (library_patterns cells) cells starts) (latest_of deadline.0 times) curves → BoundCovers (task c.graph (library_patterns cells) cells starts) (latest_of deadline.0 times) curves → point_count curves ≤ most_points → HasTooManyPoints (plain_options c.options) cells net starts deadline → ⊥
few_points net c choices cells starts deadline times earliest curves are bound few many =
    let graph = graphs_once (plain_options c.options).mode net.inputs (listing_of c.options.width (plain net)) (occurring_is_listing c.options.width choices.wide.least (plain net)) many.graph c.graph many.is_graph choices.graph in
    let same = earliest_once (plain_options c.options) cells net starts net.outputs many.times times many.earliest earliest in
    not_too_many (task c.graph (library_patterns cells) cells starts) (latest_of deadline.0 times) curves are bound few (subst (λ ts. AreTooMany (task c.graph (library_patterns cells) cells starts) (latest_of deadline.0 ts)) same (subst (λ g. AreTooMany (task g (library_patterns cells) cells starts) (latest_of deadline.0 many.times)) graph many.many))
