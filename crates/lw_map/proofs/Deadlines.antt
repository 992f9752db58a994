-- The curves of a network's choices serve its outputs by their times.
use Rattle.std.proofs.Common.{ℕ, zero, suc, ◌+◌, ◌<◌, ◌≤◌, ◌≡◌, ◌⊎◌, inl, inr, List, [], ◌∷◌, ◌++◌, map, max, take, length, Some, Contains, get_or, slice_get, refl, ap, ap₂, sym, ◌∙◌, subst, arith}
use Rattle.std.specs.List.{AllZip, AllByRecursion, IsDistinct}
use Rattle.std.specs.Prelude.{All}
use Rattle.std.specs.Str.{bytes_eq}
use Rattle.std.proofs.lemmas.Bool.{cases_lt}
use Rattle.std.proofs.lemmas.List.{length-map, map_more}
use Rattle.std.proofs.lemmas.Option.{get_or_from_slice_get, slice_get_within}
use Rattle.std.proofs.lemmas.Slice.Zip.{AllZip-long}
use Rattle.std.proofs.lemmas.List.Elements.{recursion_from_All}
use Rattle.lw_pool.specs.declared.id.NetId.{NetId}
use Rattle.lw_pool.specs.declared.id.ClassId.{ClassId}
use Rattle.lw_fixed.specs.declared.micro.Micro.{Micro}
use Rattle.lw_laws.specs.Covers.{tree_of, start_of}
use Rattle.lw_laws.specs.Covers.Cover.{wire}
use Rattle.lw_laws.specs.Headline.{Port as PlainPort, HasLeastArrival}
use Rattle.lw_laws.proofs.InputLabels.{start_before, input_leaf}
use Rattle.lw_laws.proofs.Lists.{slice_get_some}
use Rattle.lw_laws.proofs.Numbers.{slice_get_map, slice_get_map_back}
use Rattle.lw_net.specs.Networks.{NetworkParts, IsNetwork, output_names}
use Rattle.lw_net.specs.Plain as network
use Rattle.lw_genlib.specs.Cells.{CellParts, IsLibrary}
use Rattle.lw_genlib.specs.Tables.{timing_of}
use Rattle.lw_pattern.specs.Libraries.{library_patterns}
use Rattle.lw_extract.specs.declared.ports.Ports.{Ports}
use Rattle.lw_curves.specs.declared.point.Point.{Point}
use Rattle.lw_backtrace.specs.declared.targets.Targets.{Targets}
use Rattle.lw_choices.specs.Tasks.{Task, task, timing}
use Rattle.lw_curves.specs.Points.{IsPoint, AreCurves, BoundCovers, point_count, most_points}
use Rattle.lw_curves.specs.CurveTables.{CurveLists, HaveWays}
use Rattle.lw_backtrace.specs.Targets.{AreTargets, AreCurvesFor, HasPointBy}
use Rattle.lw_map.specs.declared.choices.Choices.{Choices}
use Rattle.lw_map.specs.Options.{plain_options}
use Rattle.lw_map.specs.Choices.{AreChoicesOf}
use Rattle.lw_map.specs.Ports.{ArePortsOf}
use Rattle.lw_map.specs.Trading.{AreEarliest, latest_of, micros, put_off}
use Rattle.lw_map.proofs.CellLaws.{delay_patterns}
use Rattle.lw_map.proofs.Composed.{ports_fit}
use Rattle.lw_map.proofs.Traded.{zip_places, tree_back, class_of_net}
use Rattle.lw_net.specs.Ports.{output_port}

-- the ports of targets
abbrev pub ports_in : Targets → Ports
ports_in targets = record { model = targets.model; inputs = targets.inputs; outputs = targets.outputs; roots = targets.roots }

-- the greatest of times that are low is low, and none of them is above it
pub latest_low : (m d : ℕ) (ts : List Micro) → d < m → All (λ (t : Micro). t.0 < m) ts → latest_of d (micros ts) < m
latest_low m d ts first all = by_list ts (recursion_from_All (λ (t : Micro). t.0 < m) ts all)
  where
    by_list : (ts : List Micro) → AllByRecursion (λ (t : Micro). t.0 < m) ts → latest_of d (micros ts) < m
    by_list [] a = first
    by_list (t ∷ ts) (lt, a) = let ih = by_list ts a in omega arith

latest_over : (d : ℕ) (ts : List Micro) (k : ℕ) (t : Micro) → slice_get ts k ≡ Some t → t.0 ≤ latest_of d (micros ts)
latest_over d [] k t e = cc
latest_over d (s ∷ ts) zero t e = let same : s.0 ≡ t.0 = cc in omega arith
latest_over d (s ∷ ts) (suc k) t e = let ih = latest_over d ts k t e in omega arith

first_under : (d : ℕ) (ts : List Micro) → d ≤ latest_of d (micros ts)
first_under d [] = omega arith
first_under d (t ∷ ts) = let ih = first_under d ts in omega arith

pub latest_more : (d : ℕ) (ts : List Micro) (t : Micro) → latest_of d (micros (ts ++ t ∷ [])) ≡ max (latest_of d (micros ts)) t.0
latest_more d [] t = omega arith
latest_more d (s ∷ ts) t = let ih = latest_more d ts t in omega arith

-- one more time put off
pub put_more : (deadline : Micro) (times later : List Micro) (k time : ℕ) (d : Micro) → k < length times → later ≡ map (put_off deadline) (take k times) → time ≡ max (get_or times k d).0 deadline.0 → later ++ (record { 0 = time }) ∷ [] ≡ map (put_off deadline) (take (k + 1) times)
put_more deadline times later k time d lt before is =
    ap₂ (λ (xs : List Micro) (n : ℕ). xs ++ (record { 0 = n }) ∷ []) before is ∙ sym (map_more (put_off deadline) times k d lt)

-- what holds of both at each place
zip_both : {X Y : Type 0} (R : X → Y → Type 0) (xs : List X) (ys : List Y) (k : ℕ) (x : X) (y : Y) → AllZip R xs ys → slice_get xs k ≡ Some x → slice_get ys k ≡ Some y → R x y
zip_both R [] ys k x y a e f = cc
zip_both R (z ∷ xs) [] k x y a e f = absurd a
zip_both R (z ∷ xs) (w ∷ ys) zero x y (r, a) e f = let p : z ≡ x = cc in let q : w ≡ y = cc in subst (λ v. R v y) p (subst (R z) q r)
zip_both R (z ∷ xs) (w ∷ ys) (suc k) x y (r, a) e f = zip_both R xs ys k x y a e f

module _ (net : NetworkParts) (starts : List Micro) (c : Choices) (cells : List CellParts) (kept : IsNetwork net) (are : AreChoicesOf net c) (times : List Micro) (deadline : Micro) (earliest : AreEarliest (plain_options c.options) cells net starts (micros times)) where
  abbrev pub s : Task
  s = task c.graph (library_patterns cells) cells starts

  -- one time for each output
  pub times_count : length times ≡ length net.outputs
  times_count = sym (length-map times (λ (t : Micro). t.0)) ∙ AllZip-long (λ (output : NetId) (d : ℕ). HasLeastArrival (plain_options c.options).mode (plain_options c.options).width (network.plain net) (library_patterns cells) (timing_of cells starts) output.0 d) net.outputs (micros times) earliest

  -- the output of a root
  pub record IsOutputAt (k : ℕ) (root : ClassId) (time : Micro) : Type 0 where
    pub output : NetId
    pub at : slice_get net.outputs k ≡ Some output
    pub known : output.0 < length net.names
    pub class_is : root.0 ≡ class_of_net net starts c cells kept are output.0
    pub least : HasLeastArrival (plain_options c.options).mode (plain_options c.options).width (network.plain net) (library_patterns cells) (timing_of cells starts) output.0 time.0

  pub output_of : (k : ℕ) (root : ClassId) (time : Micro) → slice_get c.roots k ≡ Some root → slice_get times k ≡ Some time → IsOutputAt k root time
  output_of k root time at bt =
      let there : slice_get (map (λ (p : PlainPort). class_of_net net starts c cells kept are p.net) (map (output_port net) net.outputs)) k ≡ Some root.0 = ap (λ (cs : List ℕ). slice_get cs k) (sym are.roots) ∙ slice_get_map (λ (d : ClassId). d.0) c.roots k root at in
      let (p, e, same) = slice_get_map_back (λ (p : PlainPort). class_of_net net starts c cells kept are p.net) (map (output_port net) net.outputs) k root.0 there in
      let (o, f, port) = slice_get_map_back (output_port net) net.outputs k p e in
      record {
        output = o;
        at = f;
        known = subst (λ (q : NetId). q.0 < length net.names) (get_or_from_slice_get net.outputs k o o f) (kept.outputs k o (slice_get_within net.outputs k o f));
        class_is = sym same ∙ ap (λ (p : PlainPort). class_of_net net starts c cells kept are p.net) (sym port);
        least = zip_both (λ (output : NetId) (d : ℕ). HasLeastArrival (plain_options c.options).mode (plain_options c.options).width (network.plain net) (library_patterns cells) (timing_of cells starts) output.0 d) net.outputs (micros times) k o time.0 earliest f (slice_get_map (λ (t : Micro). t.0) times k time bt);
      }

  module _ (ports : Ports) (named : ArePortsOf net c ports) (later : List Micro) (later_are : later ≡ map (put_off deadline) times) where
    abbrev pub targets : Targets
    targets = record { model = ports.model; inputs = ports.inputs; outputs = ports.outputs; roots = ports.roots; times = later }

    later_count : length later ≡ length net.outputs
    later_count = ap length later_are ∙ (length-map times (put_off deadline) ∙ times_count)

    pub are_targets : IsDistinct bytes_eq (output_names net) → AreTargets c.graph targets
    are_targets differ =
        let fit = ports_fit net starts c ports kept are named differ in
        let outs : length ports.outputs ≡ length net.outputs = ap length named.outputs ∙ length-map net.outputs (Rattle.lw_net.specs.Networks.name_in net) in
        record {
          few = fit.few;
          few_inputs = fit.few_inputs;
          few_outputs = fit.few_outputs;
          one_name = fit.one_name;
          one_root = fit.one_root;
          one_time = later_count ∙ sym outs;
          in_range = fit.in_range;
        }

    module _ (lib : IsLibrary cells) (horizon : Micro) (horizon_is : horizon.0 ≡ latest_of deadline.0 (micros times)) (curves : CurveLists) (own : AreCurves s horizon.0 curves.points) (bound : BoundCovers s horizon.0 curves.points) where
      by_horizon : (k : ℕ) (t : Micro) → slice_get later k ≡ Some t → t.0 ≤ horizon.0
      by_horizon k t at =
          let (u, bt, same) = slice_get_map_back (put_off deadline) times k t (ap (λ (ts : List Micro). slice_get ts k) (sym later_are) ∙ at) in
          let over = latest_over deadline.0 times k u bt in
          let under = first_under deadline.0 times in
          let value : t.0 ≡ max u.0 deadline.0 = sym (ap (λ (m : Micro). m.0) same) in
          omega (arith, horizon_is)

      reached : (k : ℕ) (root : ClassId) (t : Micro) → slice_get c.roots k ≡ Some root → slice_get later k ≡ Some t → HasPointBy curves.points root t
      reached k root t at bt =
          let (u, ct, same) = slice_get_map_back (put_off deadline) times k t (ap (λ (ts : List Micro). slice_get ts k) (sym later_are) ∙ bt) in
          let value : t.0 ≡ max u.0 deadline.0 = sym (ap (λ (m : Micro). m.0) same) in
          let o = output_of k root u at ct in
          let (by, by_is, tree, time) = o.least.attained in
          let low = by_horizon k t bt in
          let (row, p, there, holds, soon, area) = bound root.0 by (record {
            is_cover = by_is;
            unfolds = subst (Rattle.lw_laws.specs.Graphs.Unfolds c.graph (tree_of by)) (sym o.class_is) (tree_back net starts c cells kept are o.output.0 (tree_of by) o.known tree);
            in_time = omega arith;
          }) in
          (row, p, there, holds, omega arith)

      starts_are : (i k : ℕ) (row : List Point) (p : Point) → slice_get c.graph.leaves i ≡ Some k → slice_get curves.points k ≡ Some row → Contains row p → p.time.0 ≡ start_of (timing s).starts i
      starts_are i k row p at bt holds =
          let point = ((own.each k row bt).are.each p holds).0 in
          let ((by, by_is, area), low) = point.least in
          let before = start_before (timing s) (library_patterns cells) (delay_patterns cells lib) i by by_is.is_cover (input_leaf (plain_options c.options).mode (plain_options c.options).width (network.plain net) c.graph are.wide.least are.graph i k (tree_of by) at by_is.unfolds) in
          let soon = by_is.in_time in
          by_order (cases_lt (start_of (timing s).starts i) p.time.0) (omega arith) point
        where
          by_order : (start_of (timing s).starts i < p.time.0) ⊎ (p.time.0 ≤ start_of (timing s).starts i) → start_of (timing s).starts i ≤ p.time.0 → IsPoint s k p → p.time.0 ≡ start_of (timing s).starts i
          by_order (inl lt) le point =
              let less = point.falls (start_of (timing s).starts i) 0 lt ((wire i, record { is_cover = tt; unfolds = at; in_time = omega arith }, refl), λ j j_is. omega arith) in
              absurd (omega arith)
          by_order (inr ge) le point = omega arith

      pub curves_for : HaveWays s curves → point_count curves.points ≤ most_points → AreCurvesFor s targets curves
      curves_for ways few = record {
        horizon = horizon.0;
        are = own;
        few = few;
        ways = ways;
        in_time = λ k d lt. let (t, at) = slice_get_some later k lt in subst (λ (x : Micro). x.0 ≤ horizon.0) (sym (get_or_from_slice_get later k t d at)) (by_horizon k t at);
        reached = zip_places (HasPointBy curves.points) ports.roots later (ap length named.roots ∙ roots_count) (λ k root t at bt. reached k root t (ap (λ (rs : List ClassId). slice_get rs k) (sym named.roots) ∙ at) bt);
        starts = starts_are;
      }
        where
          roots_count : length c.roots ≡ length later
          roots_count =
              sym (length-map c.roots (λ (d : ClassId). d.0))
              ∙ (ap length are.roots ∙ (length-map (map (output_port net) net.outputs) (λ (p : PlainPort). class_of_net net starts c cells kept are p.net) ∙ (length-map net.outputs (output_port net) ∙ sym later_count)))
