-- Settled points are those of the classes.
use Rattle.std.proofs.Common.{◌≡◌, ℕ, ◌+◌, ◌<◌, ◌≤◌, ◌⊎◌, inl, inr, min, map, length, List, [], ◌∷◌, Some, slice_get, refl, ap, sym, ◌∙◌, subst, subst₂, arith}
use Rattle.std.specs.List.{AllZip}
use Rattle.std.proofs.lemmas.Option.{same_Some}
use Rattle.std.proofs.lemmas.Bool.{cases_lt}
use Rattle.lw_laws.specs.Graphs.{PairsInOneClass, Unfolds}
use Rattle.lw_laws.specs.Costs.{cost_of}
use Rattle.lw_laws.specs.Choices.{HasCost, HaveCosts}
use Rattle.lw_laws.specs.Choices.HasCost.{by_wire, by_gate}
use Rattle.lw_laws.specs.Choices.HaveCosts.{no_pins, pin}
use Rattle.lw_laws.specs.Covers.{Cover, ArePatterns, tree_of, start_of, latest, delays_of, time_of}
use Rattle.lw_laws.specs.Matches.{choices_of}
use Rattle.lw_laws.proofs.Covering.{cover_costs, cost_covered}
use Rattle.lw_laws.proofs.Delays.{length-delays_of}
use Rattle.lw_curves.specs.declared.point.Point.{Point}
use Rattle.lw_choices.specs.Areas.{most_area, area_at, total, area_cost}
use Rattle.lw_choices.specs.Tasks.{Task, timing, IsCoverBy, area_of, IsLeastAreaBy}
use Rattle.lw_curves.specs.Points.{IsPoint}
use Rattle.lw_choices.specs.Choices.{AreAlike, AreListedChoices, Choice, Part}
use Rattle.lw_choices.specs.Choices.Part.{input, gate}
use Rattle.lw_curves.specs.Settling.{Spot, spot, Has, HasAtMost, AreApart, IsSpotOf, times, areas, time_in, area_in, joint_cost, IsReached, AreSettled}
use Rattle.lw_graph.specs.Graphs.{IsGraph}
use Rattle.lw_curves.proofs.Alike.{points_moved}
use Rattle.lw_curves.proofs.InRange.{cost_in}
use Rattle.lw_curves.proofs.Joint.{joint_time, joint_area, joint_cover_time, joint_cover_area}

pub spot_same : (l : Spot) (c t a : ℕ) → l.class ≡ c → l.time ≡ t → l.area ≡ a → l ≡ spot c t a
spot_same l c t a e f g = λ i. record { class = e i; time = f i; area = g i }

module _ (s : Task) (is_graph : IsGraph s.graph) (choices : List Choice) (are : AreListedChoices s choices) (now : ℕ) (spots : List Spot) (settled : AreSettled s now choices spots) where
  -- points for pins, of no greater times and areas
  abbrev Below : List ℕ → List ℕ → List ℕ → Type 0
  Below ds ps es =
      (ks : List Spot) × AllZip (IsSpotOf spots) ps ks × (latest ds (times ks) ≤ latest ds (map time_in es)) × (total (areas ks) ≤ total (map area_in es))

  more : (c t a t' a' : ℕ) → t ≤ t' → a ≤ a' → HasAtMost spots c t a → HasAtMost spots c t' a'
  more c t a t' a' lt la (k, has, e, kt, ka) = (k, has, e, omega arith, omega arith)

  -- what an input would give is given by one that is alike
  input_had : (c n i : ℕ) (other : Part) → slice_get choices n ≡ Some (record { class = c; part = other }) → AreAlike s.cells (input i) other → start_of (timing s).starts i ≤ now → HasAtMost spots c (start_of (timing s).starts i) 0
  input_had c n i (input j) at same le =
      settled.given n (start_of (timing s).starts i) 0 (record { class = c; part = input j }) at (ap (start_of (timing s).starts) same, refl) le
  input_had c n i (gate cell ps) at alike le = absurd alike

  -- and what a cell would give with points of its pins
  gate_had : (c n cell : ℕ) (ps : List ℕ) (js : List Spot) (other : Part) → slice_get choices n ≡ Some (record { class = c; part = other }) → AreAlike s.cells (gate cell ps) other → length (delays_of (timing s).delays cell) ≡ length ps → AllZip (IsSpotOf spots) ps js → latest (delays_of (timing s).delays cell) (times js) ≤ now → HasAtMost spots c (latest (delays_of (timing s).delays cell) (times js)) (min most_area (area_at s.cells cell + total (areas js)))
  gate_had c n cell ps js (input i) at alike len zip le = absurd alike
  gate_had c n cell ps js (gate other qs) at (same, perm) len zip le =
      let ds = delays_of (timing s).delays cell in
      let at' = subst (λ k. slice_get choices n ≡ Some (record { class = c; part = gate k qs })) (sym same) at in
      let may = are.each n (record { class = c; part = gate cell qs }) at' in
      let (ks, zip', lt, la) = points_moved spots ds ps qs js len (length-delays_of (timing s).delays cell (length qs) may.pins) perm zip in
      let given = settled.given n (latest ds (times ks)) (min most_area (area_at s.cells cell + total (areas ks))) (record { class = c; part = gate cell qs }) at' (ks, zip', refl, refl) (omega (arith, lt, le)) in
      more c (latest ds (times ks)) (min most_area (area_at s.cells cell + total (areas ks))) (latest ds (times js)) (min most_area (area_at s.cells cell + total (areas js))) lt (omega arith) given

  mutual
    all_had : {c d : ℕ} → HasCost (choices_of s.graph (area_cost s.cells).pin_counts s.patterns) (joint_cost s) c d → time_in d ≤ now → HasAtMost spots c (time_in d) (area_in d)
    all_had (by_wire {c = c} {i = i} h) le =
        let start = start_of (timing s).starts i in
        let like = are.all c (input i) (cost_in s.graph is_graph (area_cost s.cells).pin_counts s.patterns (joint_cost s) (by_wire h)) h in
        let t = joint_time start 0 (omega arith) in
        let a = joint_area start 0 (omega arith) in
        let le' : start ≤ now = subst (λ x. x ≤ now) t le in
        subst₂ (λ x y. HasAtMost spots c x y) (sym t) (sym a) (input_had c like.number i like.other like.at like.alike le')
    all_had (by_gate {c = c} {cell = cell} {ps = ps} {ds = es} m ks) le =
        let ds = delays_of (timing s).delays cell in
        let time = latest ds (map time_in es) in
        let area = min most_area (area_at s.cells cell + total (map area_in es)) in
        let t = joint_time time area (omega arith) in
        let a = joint_area time area (omega arith) in
        let le' : time ≤ now = subst (λ x. x ≤ now) t le in
        let like = are.all c (gate cell ps) (cost_in s.graph is_graph (area_cost s.cells).pin_counts s.patterns (joint_cost s) (by_gate m ks)) m in
        let len = length-delays_of (timing s).delays cell (length ps) m.pins in
        let (js, zip, lt, la) = pins_had ds ks len le' in
        let given = gate_had c like.number cell ps js like.other like.at like.alike len zip (omega arith) in
        subst₂ (λ x y. HasAtMost spots c x y) (sym t) (sym a) (more c (latest ds (times js)) (min most_area (area_at s.cells cell + total (areas js))) time area lt (omega arith) given)

    pins_had : (ds : List ℕ) {ps es : List ℕ} → HaveCosts (choices_of s.graph (area_cost s.cells).pin_counts s.patterns) (joint_cost s) ps es → length ds ≡ length ps → latest ds (map time_in es) ≤ now → Below ds ps es
    pins_had [] no_pins e le = ([], tt, omega arith, omega arith)
    pins_had (d ∷ ds) no_pins e le = absurd (omega arith)
    pins_had [] (pin k ks) e le = absurd (omega arith)
    pins_had (d ∷ ds) (pin {p = p} {d = x} {ps = ps} {ds = es} k ks) e le =
        let (j, has, same, jt, ja) = all_had k (omega arith) in
        let (js, zip, lt, la) = pins_had ds ks (omega arith) (omega arith) in
        (j ∷ js, ((has, same), zip), omega arith, omega arith)

  module _ (once : PairsInOneClass s.graph) (patterns : ArePatterns (area_cost s.cells).pin_counts s.patterns) (apart : AreApart spots) where
    pub cover_had : (c t : ℕ) (k : Cover) → IsCoverBy s c t k → t ≤ now → HasAtMost spots c (time_of (timing s) k) (area_of s k)
    cover_had c t k by le =
        let time = joint_cover_time s k in
        let in_time = by.in_time in
        let le' : time_in (cost_of (joint_cost s) k) ≤ now = omega (arith, time) in
        subst₂ (λ x y. HasAtMost spots c x y) time (joint_cover_area s k) (all_had (cover_costs s.graph once (joint_cost s) s.patterns patterns k c by.is_cover by.unfolds) le')

    reached_cover : (k : Spot) → IsReached s k → (cover : Cover) × IsCoverBy s k.class k.time cover × (area_of s cover ≡ k.area)
    reached_cover k (d, has, lt, ea) =
        let covers = cost_covered s.graph (joint_cost s) s.patterns has in
        let time : time_of (timing s) covers.by ≡ time_in d = sym (joint_cover_time s covers.by) ∙ ap time_in covers.costs in
        let area : area_of s covers.by ≡ area_in d = sym (joint_cover_area s covers.by) ∙ ap area_in covers.costs in (
          covers.by,
          record { is_cover = covers.is_cover; unfolds = covers.unfolds; in_time = omega (arith, time, lt) },
          area ∙ ea,
        )

    -- of two points of a class the earlier has no less area, and more where it is another
    falls : (k l : Spot) → Has spots k → Has spots l → k.class ≡ l.class → l.time ≤ k.time → (k ≡ l) ⊎ ((l.time < k.time) × (k.area < l.area))
    falls k l (i, at) (j, bt) e le = by_place (cases_lt i j) (cases_lt j i)
      where
        by_place : (i < j) ⊎ (j ≤ i) → (j < i) ⊎ (i ≤ j) → (k ≡ l) ⊎ ((l.time < k.time) × (k.area < l.area))
        by_place (inl lt) y = let (t, a) = apart i j k l lt at bt e in absurd (omega arith)
        by_place (inr x) (inl lt) = inr (apart j i l k lt bt at (sym e))
        by_place (inr x) (inr y) = let same : i ≡ j = omega arith in inl (same_Some k l (sym at ∙ (ap (slice_get spots) same ∙ bt)))

    no_less : (k l : Spot) → Has spots k → Has spots l → k.class ≡ l.class → l.time ≤ k.time → k.area ≤ l.area
    no_less k l has other e le = by_case (falls k l has other e le)
      where
        by_case : (k ≡ l) ⊎ ((l.time < k.time) × (k.area < l.area)) → k.area ≤ l.area
        by_case (inl same) = let a = ap (λ (x : Spot). x.area) same in omega arith
        by_case (inr (t, a)) = omega arith

    less : (k l : Spot) → Has spots k → Has spots l → k.class ≡ l.class → l.time < k.time → k.area < l.area
    less k l has other e lt = by_case (falls k l has other e (omega arith))
      where
        by_case : (k ≡ l) ⊎ ((l.time < k.time) × (k.area < l.area)) → k.area < l.area
        by_case (inl same) = let t = ap (λ (x : Spot). x.time) same in absurd (omega arith)
        by_case (inr (t, a)) = a

    -- the area of a point is the least by its time
    pub spot_least : (k : Spot) → Has spots k → IsLeastAreaBy s k.class k.time (Some k.area)
    spot_least k has = (
      reached_cover k (settled.reached k has),
      λ cover by.
          let low = settled.low k has in
          let in_time = by.in_time in
          let (l, other, e, lt, la) = cover_had k.class k.time cover by low in
          let le = no_less k l has other (sym e) (omega arith) in
          omega arith,
    )

    pub spot_is_point : (k : Spot) (p : Point) → Has spots k → p.time.0 ≡ k.time → p.area ≡ k.area → IsPoint s k.class p
    spot_is_point k p has t a = record {
      least = subst₂ (λ x y. IsLeastAreaBy s k.class x (Some y)) (sym t) (sym a) (spot_least k has);
      falls = λ time area lt ((cover, by, is), least).
          let low = settled.low k has in
          let in_time = by.in_time in
          let (l, other, e, le, la) = cover_had k.class time cover by (omega arith) in
          let f = less k l has other (sym e) (omega arith) in
          omega arith;
    }

    -- each point of a class is among them
    pub point_is_spot : (c : ℕ) (p : Point) → IsPoint s c p → p.time.0 ≤ now → Has spots (spot c p.time.0 p.area)
    point_is_spot c p is le =
        let ((cover, by, area), least) = is.least in
        let in_time = by.in_time in
        let (l, has, e, lt, la) = cover_had c p.time.0 cover by le in
        let (other, by', area') = reached_cover l (settled.reached l has) in
        let o_time = by'.in_time in
        let low = least other (record { is_cover = by'.is_cover; unfolds = subst (λ x. Unfolds s.graph (tree_of other) x) e by'.unfolds; in_time = omega arith }) in
        let same : l.area ≡ p.area = omega arith in
        by_time l has e same (omega arith) (cases_lt l.time p.time.0)
      where
        by_time : (l : Spot) → Has spots l → l.class ≡ c → l.area ≡ p.area → l.time ≤ p.time.0 → (l.time < p.time.0) ⊎ (p.time.0 ≤ l.time) → Has spots (spot c p.time.0 p.area)
        by_time l has e same le (inl lt) =
            let f = is.falls l.time l.area lt (subst (λ x. IsLeastAreaBy s x l.time (Some l.area)) e (spot_least l has)) in
            absurd (omega arith)
        by_time l has e same le (inr ge) =
            let t : l.time ≡ p.time.0 = omega arith in
            let is_spot : l ≡ spot c p.time.0 p.area = spot_same l c p.time.0 p.area e t same in
            subst (Has spots) is_spot has
