-- Nets that are built from points stand for covers by the points' times and of their areas.
use Rattle.std.proofs.Common.{◌≡◌, ℕ, zero, suc, ◌+◌, ◌<◌, ◌≤◌, Bool, true, inl, inr, min, map, length, List, [], ◌∷◌, ◌++◌, Some, slice_get, slice_index_or, refl, ap, sym, ◌∙◌, subst, subst₂, arith}
use Rattle.std.specs.List.{AllZip}
use Rattle.std.proofs.lemmas.Option.{same_Some, slice_get_within}
use Rattle.lw_facts.proofs.Lists.{index_at}
use Rattle.lw_laws.specs.Costs.{cost_of, costs_of}
use Rattle.lw_laws.specs.Covers.{Cover, Covers, tree_of, latest, start_of, delays_of, time_of, times_of}
use Rattle.lw_laws.specs.Covers.Cover.{wire, gate}
use Rattle.lw_laws.specs.Covers.Covers.{no_covers, cover}
use Rattle.lw_laws.specs.Graphs.{Unfolds}
use Rattle.lw_laws.specs.Mapped.{IsMapped}
use Rattle.lw_laws.specs.Matches.{IsMatchAt}
use Rattle.lw_laws.specs.Netlists.{Gate, Netlist, IsGate, StandsFor, StandForAll}
use Rattle.lw_laws.proofs.Netlists.{net_covered}
use Rattle.lw_choices.specs.Areas.{most_area, area_at, total, area_cost}
use Rattle.lw_curves.specs.Backing.{Held, IsHeld, IsPinOf, held_times, held_areas, IsGivenBy, AreBacked}
use Rattle.lw_choices.specs.Choices.{Part, Choice, AreListedChoices}
use Rattle.lw_choices.specs.Choices.Part.{gate as by_gate}
use Rattle.lw_curves.specs.CurveTables.{CurveLists, HaveWays, point_in}
use Rattle.lw_choices.specs.Tasks.{Task, timing, IsCoverBy}
use Rattle.lw_curves.specs.Points.{IsPoint, AreCurves}
use Rattle.lw_backtrace.specs.Sites.{Site, IsNetOfPoint, IsGateOfPoint, HavePinNets}
use Rattle.lw_trade.specs.Trades.{IsBuilt, IsCoverOfPoint, BuiltNetsAreCovers}
use Rattle.lw_curves.proofs.Grouped.{get_map}
use Rattle.lw_choices.proofs.Lists.{get_some, got, at_contained}

abbrev tail : List ℕ → List ℕ
tail [] = []
tail (x ∷ xs) = xs

index_left : (xs ys : List ℕ) (i : ℕ) → i < length xs → slice_index_or (xs ++ ys) i 0 ≡ slice_index_or xs i 0
index_left [] ys i lt = absurd (omega arith)
index_left (x ∷ xs) ys zero lt = refl
index_left (x ∷ xs) ys (suc i) lt = index_left xs ys i (omega arith)

index_right : (xs ys : List ℕ) (k j y : ℕ) → k ≡ length xs + j → slice_get ys j ≡ Some y → slice_index_or (xs ++ ys) k 0 ≡ y
index_right [] [] k j y e at = cc
index_right [] (z ∷ ys) zero zero y e at = same_Some z y at
index_right [] (z ∷ ys) zero (suc j) y e at = absurd (omega arith)
index_right [] (z ∷ ys) (suc k) zero y e at = absurd (omega arith)
index_right [] (z ∷ ys) (suc k) (suc j) y e at = index_right [] ys k j y (omega arith) at
index_right (x ∷ xs) ys zero j y e at = absurd (omega arith)
index_right (x ∷ xs) ys (suc k) j y e at = index_right xs ys k j y (omega arith) at

module _ (s : Task) (choices : List Choice) (are : AreListedChoices s choices) (held : List Held) (backed : AreBacked s choices held) (sites : List Site) (n : Netlist) (built : IsBuilt s choices held sites n) where
  -- what the choice of a point gives
  given : (h : Held) (c : ℕ) (part : Part) → IsHeld held h → slice_get choices h.choice ≡ Some (record { class = c; part = part }) → IsGivenBy s held h part × (c ≡ h.spot.class)
  given h c part in' at =
      let is = backed h in' in
      let same : is.by ≡ record { class = c; part = part } = same_Some is.by (record { class = c; part = part }) (sym is.listed ∙ at) in
      (subst (λ (x : Choice). IsGivenBy s held h x.part) same is.given, ap (λ (x : Choice). x.class) (sym same) ∙ is.class_is)

  -- the site of a gate
  gate_at : (own : Bool) (h : Held) (i j : ℕ) (g : Gate) (net : ℕ) → slice_get sites i ≡ Some (record { point = h; exact = own }) → net ≡ length s.graph.leaves + i → net ≡ n.inputs + j → IsGate n j g → IsGateOfPoint s choices held sites (record { point = h; exact = own }) g
  gate_at own h i j g net at e f gt =
      let same : i ≡ j = omega (arith, e, f, built.inputs) in
      built.gates j (record { point = h; exact = own }) g (ap (slice_get sites) (sym same) ∙ at) gt

  -- the cover of a net comes by the time of its point
  mutual
    cover_soon : (k : Cover) (own : Bool) (h : Held) (net : ℕ) → IsNetOfPoint s sites own h net → StandsFor n k net → time_of (timing s) k ≤ h.spot.time
    cover_soon (wire i) own h net (inl (leaf, start)) (f, in_range) =
        subst (λ x. start_of (timing s).starts x ≤ h.spot.time) f start
    cover_soon (wire i) own h net (inr (none, j, at, e)) (f, in_range) =
        absurd (omega (arith, e, f, in_range, built.inputs))
    cover_soon (gate p ks) own h net (inl (leaf, start)) (j, g, gt, f, cell, all) =
        let lt = slice_get_within s.graph.leaves net h.spot.class leaf in
        absurd (omega (arith, f, lt, built.inputs))
    cover_soon (gate p ks) own h net (inr (none, i, at, e)) (j, g, gt, f, cell, all) =
        let b = gate_at own h i j g net at e f gt in
        let t = covers_soon ks own h.spot.time (delays_of (timing s).delays g.cell) b.pins g.pins b.nets all in
        subst (λ x. latest (delays_of (timing s).delays x) (times_of (timing s) ks) ≤ h.spot.time) cell t

    covers_soon : (ks : Covers) (own : Bool) (time : ℕ) (ds ps nets : List ℕ) → HavePinNets s held sites own time ds ps nets → StandForAll n ks nets → latest ds (times_of (timing s) ks) ≤ time
    covers_soon no_covers own time [] ps nets have stand = omega arith
    covers_soon no_covers own time (d ∷ ds) ps nets have stand = omega arith
    covers_soon (cover k ks) own time ds ps [] have (net, rest, e, stand, all) = cc
    covers_soon (cover k ks) own time [] [] (m ∷ ms) have stand = absurd have
    covers_soon (cover k ks) own time [] (p ∷ ps) (m ∷ ms) have stand = absurd have
    covers_soon (cover k ks) own time (d ∷ ds) [] (m ∷ ms) have stand = absurd have
    covers_soon (cover k ks) own time (d ∷ ds) (p ∷ ps) (m ∷ ms) (pin, have) (net, rest, e, stand, all) =
        let first : m ≡ net = ap (λ xs. slice_index_or xs 0 0) e in
        let others : ms ≡ rest = ap tail e in
        let t = cover_soon k pin.own pin.point m pin.net_of (subst (StandsFor n k) (sym first) stand) in
        let ts = covers_soon ks own time ds ps ms have (subst (StandForAll n ks) (sym others) all) in
        let in_time = pin.by.in_time in
        omega (arith, t, ts, in_time)

  -- and the cover of an exact one has no more area
  module _ (falls : (k l : Held) → IsHeld held k → IsHeld held l → k.spot.class ≡ l.spot.class → k.spot.time ≤ l.spot.time → l.spot.area ≤ k.spot.area) where
    mutual
      cover_low : (k : Cover) (h : Held) (net : ℕ) → IsHeld held h → IsNetOfPoint s sites true h net → StandsFor n k net → cost_of (area_cost s.cells) k ≤ h.spot.area
      cover_low (wire i) h net in' net_of stand = omega arith
      cover_low (gate p ks) h net in' (inl (leaf, start)) (j, g, gt, f, cell, all) =
          let lt = slice_get_within s.graph.leaves net h.spot.class leaf in
          absurd (omega (arith, f, lt, built.inputs))
      cover_low (gate p ks) h net in' (inr (none, i, at, e)) (j, g, gt, f, cell, all) =
          let b = gate_at true h i j g net at e f gt in
          let ((ls, zip, in_time, in_area), class) = given h b.class (by_gate g.cell b.pins) in' b.chosen in
          let a = covers_low ks h h.spot.time (delays_of (timing s).delays g.cell) b.pins g.pins ls b.nets zip in_time all in
          let a' : min most_area (area_at s.cells g.cell + total (costs_of (area_cost s.cells) ks)) ≤ h.spot.area = omega (arith, a, in_area) in
          subst (λ x. min most_area (area_at s.cells x + total (costs_of (area_cost s.cells) ks)) ≤ h.spot.area) cell a'

      covers_low : (ks : Covers) (h : Held) (time : ℕ) (ds ps nets : List ℕ) (ls : List Held) → HavePinNets s held sites true time ds ps nets → AllZip (IsPinOf held h) ps ls → latest ds (held_times ls) ≤ time → StandForAll n ks nets → total (costs_of (area_cost s.cells) ks) ≤ total (held_areas ls)
      covers_low no_covers h time ds ps nets ls have zip le stand = omega arith
      covers_low (cover k ks) h time ds ps [] ls have zip le (net, rest, e, stand, all) = cc
      covers_low (cover k ks) h time [] [] (m ∷ ms) ls have zip le stand = absurd have
      covers_low (cover k ks) h time [] (p ∷ ps) (m ∷ ms) ls have zip le stand = absurd have
      covers_low (cover k ks) h time (d ∷ ds) [] (m ∷ ms) ls have zip le stand = absurd have
      covers_low (cover k ks) h time (d ∷ ds) (p ∷ ps) (m ∷ ms) [] have zip le stand = absurd zip
      covers_low (cover k ks) h time (d ∷ ds) (p ∷ ps) (m ∷ ms) (q ∷ ls) (fed, have) (pin, zip) le (net, rest, e, stand, all) =
          let first : m ≡ net = ap (λ xs. slice_index_or xs 0 0) e in
          let others : ms ≡ rest = ap tail e in
          let l = fed.point in
          let (exact, last) = fed.last refl in
          let a = cover_low k l m last.held_is (subst (λ (b : Bool). IsNetOfPoint s sites b l m) exact fed.net_of) (subst (StandsFor n k) (sym first) stand) in
          let as' = covers_low ks h time ds ps ms ls have zip (omega (arith, le)) (subst (StandForAll n ks) (sym others) all) in
          let later = last.last q pin.0 pin.1 (omega (arith, le)) in
          let less = falls q l pin.0 last.held_is (pin.1 ∙ sym last.class_is) later in
          omega (arith, a, as', less)

  -- the classes of nets
  abbrev class_of : Site → ℕ
  class_of site = site.point.spot.class

  class_at : ℕ → ℕ
  class_at net = slice_index_or (s.graph.leaves ++ map class_of sites) net 0

  class_is : (own : Bool) (h : Held) (net : ℕ) → IsNetOfPoint s sites own h net → class_at net ≡ h.spot.class
  unfolding class_at
  class_is own h net (inl (leaf, start)) =
      index_left s.graph.leaves (map class_of sites) net (slice_get_within s.graph.leaves net h.spot.class leaf) ∙ index_at s.graph.leaves net h.spot.class leaf
  class_is own h net (inr (none, j, at, e)) =
      index_right s.graph.leaves (map class_of sites) net j h.spot.class e (get_map class_of sites j (record { point = h; exact = own }) at)

  pin_classes : (exact : Bool) (time : ℕ) (ds ps nets : List ℕ) → HavePinNets s held sites exact time ds ps nets → map class_at nets ≡ ps
  pin_classes exact time [] [] [] have = refl
  pin_classes exact time [] [] (m ∷ ms) have = absurd have
  pin_classes exact time [] (p ∷ ps) [] have = absurd have
  pin_classes exact time [] (p ∷ ps) (m ∷ ms) have = absurd have
  pin_classes exact time (d ∷ ds) [] [] have = absurd have
  pin_classes exact time (d ∷ ds) [] (m ∷ ms) have = absurd have
  pin_classes exact time (d ∷ ds) (p ∷ ps) [] have = absurd have
  pin_classes exact time (d ∷ ds) (p ∷ ps) (m ∷ ms) (pin, have) =
      let first = class_is pin.own pin.point m pin.net_of ∙ pin.by.class_is in
      let rest = pin_classes exact time ds ps ms have in
      (λ i. first i ∷ rest i)

  input_class : (i : ℕ) → i < n.inputs → slice_get s.graph.leaves i ≡ Some (class_at i)
  unfolding class_at
  input_class i lt =
      let in' : i < length s.graph.leaves = omega (arith, lt, built.inputs) in
      got s.graph.leaves i 0 in' ∙ ap (λ (c : ℕ). Some c) (sym (index_left s.graph.leaves (map class_of sites) i in'))

  here_is : (j : ℕ) (site : Site) → slice_get sites j ≡ Some site → class_at (n.inputs + j) ≡ site.point.spot.class
  unfolding class_at
  here_is j site at =
      index_right s.graph.leaves (map class_of sites) (n.inputs + j) j site.point.spot.class (omega (arith, built.inputs)) (get_map class_of sites j site at)

  gate_class : (j : ℕ) (g : Gate) → IsGate n j g → IsMatchAt s.graph (area_cost s.cells).pin_counts s.patterns (class_at (n.inputs + j)) g.cell (map class_at g.pins)
  gate_class j g gt =
      let lt = slice_get_within n.gates j g gt in
      let (site, at) = get_some sites j (omega (arith, lt, built.one_each)) in
      let b = built.gates j site g at gt in
      let class = (given site.point b.class (by_gate g.cell b.pins) (built.sites_are j site at) b.chosen).1 in
      let here = here_is j site at in
      let pins = pin_classes site.exact site.point.spot.time (delays_of (timing s).delays g.cell) b.pins g.pins b.nets in
      subst₂ (λ c ps. IsMatchAt s.graph (area_cost s.cells).pin_counts s.patterns c g.cell ps) (class ∙ sym here) (sym pins) (are.each site.point.choice (record { class = b.class; part = by_gate g.cell b.pins }) b.chosen)

  mapped : IsMapped s.graph (area_cost s.cells).pin_counts s.patterns n class_at
  mapped = record { inputs = input_class; gates = gate_class }

  in_range : (own : Bool) (h : Held) (net : ℕ) → IsNetOfPoint s sites own h net → net < n.inputs + length n.gates
  in_range own h net (inl (leaf, start)) =
      let lt = slice_get_within s.graph.leaves net h.spot.class leaf in omega (arith, lt, built.inputs)
  in_range own h net (inr (none, j, at, e)) =
      let lt = slice_get_within sites j (record { point = h; exact = own }) at in omega (arith, e, lt, built.one_each, built.inputs)

  -- each net stands for a cover by the time of its point
  pub net_cover : (own : Bool) (h : Held) (net : ℕ) → IsNetOfPoint s sites own h net → (k : Cover) × StandsFor n k net × IsCoverBy s h.spot.class h.spot.time k
  net_cover own h net net_of =
      let k = net_covered s.graph (area_cost s.cells).pin_counts s.patterns n class_at built.ordered mapped net (in_range own h net net_of) in
      let t = cover_soon k.by own h net net_of k.stands in
      (k.by, k.stands, record { is_cover = k.is_cover; unfolds = subst (λ c. Unfolds s.graph (tree_of k.by) c) (class_is own h net net_of) k.unfolds; in_time = t })

  pub built_cover : (point : (h : Held) → IsHeld held h → IsPoint s h.spot.class (point_in h)) (falls : (k l : Held) → IsHeld held k → IsHeld held l → k.spot.class ≡ l.spot.class → k.spot.time ≤ l.spot.time → l.spot.area ≤ k.spot.area) (h : Held) (net : ℕ) → IsHeld held h → IsNetOfPoint s sites true h net → IsCoverOfPoint s n h net
  built_cover point falls h net in' net_of =
      let (k, stands, by) = net_cover true h net net_of in
      let a = cover_low falls k h net in' net_of stands in
      let least = (point h in').least.1 k by in
      record { by = k; stands = stands; is_cover = by; area_is = omega (arith, a, least) }

-- the points of curves
module _ (s : Task) (horizon : ℕ) (curves : CurveLists) (ways : HaveWays s curves) (are : AreCurves s horizon curves.points) where
  pub held_point : (h : Held) → IsHeld ways.held h → IsPoint s h.spot.class (point_in h)
  held_point h in' =
      let is = ways.backed h in' in
      let low : h.spot.class < length s.graph.pairs = subst (λ c. c < length s.graph.pairs) is.class_is (ways.choices.within h.choice is.by is.listed) in
      let rows = ways.rows in
      let (row, at) = get_some rows.rows h.spot.class (let m = rows.are.one_each in omega (arith, low, m)) in
      let none : ◌≡◌ {A = ℕ} (0 + h.spot.class) h.spot.class = omega arith in
      let (i, here) = (rows.are.each h.spot.class row at).all h in' (sym none) in
      let shown : slice_get curves.points h.spot.class ≡ Some (map point_in row) = ap (λ ps. slice_get ps h.spot.class) rows.points_are ∙ get_map (map point_in) rows.rows h.spot.class row at in
      ((are.each h.spot.class (map point_in row) shown).are.each (point_in h) (at_contained (map point_in row) i (point_in h) (get_map point_in row i h here))).0

  pub held_falls : (k l : Held) → IsHeld ways.held k → IsHeld ways.held l → k.spot.class ≡ l.spot.class → k.spot.time ≤ l.spot.time → l.spot.area ≤ k.spot.area
  held_falls k l in' also e le =
      let ((found, by, area), least) = (held_point k in').least in
      let in_time = by.in_time in
      let low = (held_point l also).least.1 found (record { is_cover = by.is_cover; unfolds = subst (λ c. Unfolds s.graph (tree_of found) c) e by.unfolds; in_time = omega (arith, in_time, le) }) in
      omega (arith, low, area)

pub built_nets : BuiltNetsAreCovers
built_nets s horizon curves ways sites n are built h net in' net_of =
    built_cover s curves.choices ways.choices ways.held ways.backed sites n built (held_point s horizon curves ways are) (held_falls s horizon curves ways are) h net in' net_of
