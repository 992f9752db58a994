-- What was looked through of a walk makes it a walk.
use Rattle.std.proofs.Common.{◌≡◌, ℕ, zero, suc, ◌+◌, ◌<◌, ◌≤◌, ◌⊎◌, Bool, true, false, true≢false, inl, inr, length, map, List, [], ◌∷◌, Contains, Some, None, slice_get, slice_index_or, refl, ap, sym, ◌∙◌, subst, subst₂, arith}
use Rattle.std.proofs.lemmas.List.{length-map}
use Rattle.std.proofs.lemmas.Option.{same_Some, get_or_from_slice_get, slice_get_within}
use Rattle.lw_laws.specs.Covers.{delays_of, start_of}
use Rattle.lw_pool.specs.declared.id.CellId.{CellId}
use Rattle.lw_pool.specs.declared.id.ClassId.{ClassId}
use Rattle.lw_fixed.specs.declared.micro.Micro.{Micro}
use Rattle.lw_genlib.specs.Tables.{millionths}
use Rattle.lw_dag.specs.Graphs.{fanins_at}
use Rattle.std.specs.Global.{Vec}
use Rattle.lw_genlib.specs.Cells.{CellParts}
use Rattle.std.proofs.lemmas.Bool.{cases_lt}
use Rattle.lw_curves.specs.declared.point.Way.{Way}
use Rattle.lw_curves.specs.declared.point.Point.{Point}
use Rattle.lw_backtrace.specs.declared.trail.Node.{Node}
use Rattle.lw_backtrace.specs.declared.trail.Trail.{Trail}
use Rattle.lw_backtrace.specs.declared.wants.Plan.{Plan}
use Rattle.lw_backtrace.specs.declared.wants.Demand.{Demand}
use Rattle.lw_backtrace.specs.declared.wants.Want.{Want}
use Rattle.lw_choices.specs.Areas.{most_area}
use Rattle.lw_curves.specs.Backing.{Held, IsHeld}
use Rattle.lw_backtrace.specs.SecondLook.{IsCut, IsNodeBy, IsNetBy, IsRootBy, IsOwned, IsSpare, IsUsedEarlier, IsGateRight, IsRightWalk, root_want, want_of_pin}
use Rattle.lw_choices.specs.Choices.Part.{gate as by_gate}
use Rattle.lw_curves.specs.CurveTables.{HaveWays, point_in, way_in, IsHeldRow}
use Rattle.lw_curves.specs.Lasts.{IsLastIn}
use Rattle.lw_choices.specs.Tasks.{Task, timing}
use Rattle.lw_backtrace.specs.Sites.{Site, IsPointBy, IsLastBy, IsPinNet, HavePinNets, IsGateOfPoint}
use Rattle.lw_backtrace.specs.Walks.{AreInputsTo, IsRootNet, HaveRootNets, IsUsed, IsWalk}
use Rattle.lw_backtrace.specs.Walks.IsUsed.{by_root, by_pin}
use Rattle.lw_curves.proofs.Grouped.{get_map, map_get}
use Rattle.lw_choices.proofs.Lists.{at_contained, get_some}
use Rattle.lw_backtrace.proofs.Placed.{placed_last}
use Rattle.lw_pool.specs.Numbers.{numbers}
use Rattle.lw_genlib.proofs.Shared.{delays_at}

module _ (s : Task) (plan : Plan) (trail : Trail) (ways : HaveWays s plan.curves.now) (starts : (i c : ℕ) (row : List Point) (p : Point) → slice_get s.graph.leaves i ≡ Some c → slice_get plan.curves.now.points c ≡ Some row → Contains row p → p.time.0 ≡ start_of (timing s).starts i) (own : AreInputsTo s.graph (length s.graph.leaves) plan.inputs.now) (count_is : plan.count ≡ length s.graph.leaves) (cells_are : s.cells ≡ plan.lib.now) where
  abbrev no_point : Held
  no_point = record { spot = record { class = 0; time = 0; area = 0 }; choice = 0; order = 0 }

  abbrev held_of : Node → Held
  held_of node = slice_index_or (slice_index_or ways.rows.rows node.class.0 []) node.place no_point

  abbrev site_of : Node → Site
  site_of node = record { point = held_of node; exact = node.exact }

  abbrev pub sites_of : List Site
  sites_of = map site_of trail.nodes.items

  -- the point of a node
  record IsHeldAt (node : Node) (h : Held) : Type 0 where
    row : List Held
    row_at : slice_get ways.rows.rows node.class.0 ≡ Some row
    at : slice_get row node.place ≡ Some h

  held_is : (node : Node) (h : Held) → IsHeldAt node h → held_of node ≡ h
  held_is node h is =
      ap (λ (row : List Held). slice_index_or row node.place no_point) (get_or_from_slice_get ways.rows.rows node.class.0 is.row [] is.row_at)
      ∙ get_or_from_slice_get is.row node.place h no_point is.at

  row_is : (c : ℕ) (row : List Held) → slice_get ways.rows.rows c ≡ Some row → IsHeldRow ways.held c row
  row_is c row at =
      let none : ◌≡◌ {A = ℕ} (0 + c) c = omega arith in
      subst (λ k. IsHeldRow ways.held k row) none (ways.rows.are.each c row at)

  held_there : (node : Node) (h : Held) → IsHeldAt node h → IsHeld ways.held h × (h.spot.class ≡ node.class.0)
  held_there node h is = (row_is node.class.0 is.row is.row_at).each h (node.place, is.at)

  points_back : (c : ℕ) (row : List Point) → slice_get plan.curves.now.points c ≡ Some row → (held : List Held) × (slice_get ways.rows.rows c ≡ Some held) × (map point_in held ≡ row)
  points_back c row at = map_get (map point_in) ways.rows.rows c row (ap (λ ps. slice_get ps c) (sym ways.rows.points_are) ∙ at)

  -- an earlier place of a row has an earlier point
  earlier : (c delay time : ℕ) (row : List Held) → IsHeldRow ways.held c row → (place : ℕ) (l : Held) → slice_get row place ≡ Some l → l.spot.time + delay ≤ time → (at : ℕ) → at ≤ place → (k : Held) × (slice_get row at ≡ Some k) × IsPointBy ways.held c delay time k
  earlier c delay time row is place l there in_time at le =
      let lt = slice_get_within row place l there in
      let (k, kt) = get_some row at (omega (arith, le, lt)) in
      let (held, class) = is.each k (at, kt) in
      (k, kt, record { held_is = held; class_is = class; in_time = by_order k kt (cases_lt at place) })
    where
      by_order : (k : Held) → slice_get row at ≡ Some k → (at < place) ⊎ (place ≤ at) → k.spot.time + delay ≤ time
      by_order k kt (inl lt) = let less = is.rising at place k l lt kt there in omega (arith, less, in_time)
      by_order k kt (inr ge) =
          let same : at ≡ place = omega (arith, le, ge) in
          let e = ap (λ (x : Held). x.spot.time) (same_Some k l (sym kt ∙ (ap (slice_get row) same ∙ there))) in
          omega (arith, e, in_time)

  -- the net of a point in time
  net_is : (want : Want) (net : ℕ) → IsNetBy plan trail want net → IsPinNet s ways.held sites_of want.exact want.class.0 want.delay want.time net
  net_is want net is =
      let (row, at, e) = points_back want.class.0 is.row is.at in
      let (l, there, last) = placed_last ways.held want.class.0 row (row_is want.class.0 row at) want.delay want.time is.place (subst (λ ps. IsLastIn ps want.delay want.time is.place) (sym e) is.last) in
      by_case row at e l there last is.right
    where
      of_node : (row : List Held) → slice_get ways.rows.rows want.class.0 ≡ Some row → (l : Held) → slice_get row is.place ≡ Some l → IsLastBy ways.held want.class.0 want.delay want.time l → slice_get plan.inputs.now want.class.0 ≡ Some None → (j : ℕ) → net ≡ plan.count + j → (node : IsNodeBy trail.nodes.items want.exact want.class.0 is.place j) → (k : Held) × (slice_get row node.node.place ≡ Some k) × IsPointBy ways.held want.class.0 want.delay want.time k → IsPinNet s ways.held sites_of want.exact want.class.0 want.delay want.time net
      of_node row at l there last none j net_at node (k, k_there, by) = record {
        point = k;
        own = node.node.exact;
        by = by;
        net_of = inr (
          λ i leaf. own.none want.class.0 i none (slice_get_within s.graph.leaves i k.spot.class leaf) (leaf ∙ ap Some by.class_is),
          j,
          get_map site_of trail.nodes.items j node.node node.at ∙ ap (λ (x : Held). Some (record { point = x; exact = node.node.exact })) (held_is node.node k (record { row = row; row_at = ap (slice_get ways.rows.rows) node.class_is ∙ at; at = k_there })),
          net_at ∙ ap (λ n. n + j) count_is,
        );
        last = λ yes. (
          node.own yes,
          subst (IsLastBy ways.held want.class.0 want.delay want.time) (same_Some l k (sym there ∙ (ap (slice_get row) (sym (node.last yes)) ∙ k_there))) last,
        );
      }

      by_case : (row : List Held) → slice_get ways.rows.rows want.class.0 ≡ Some row → map point_in row ≡ is.row → (l : Held) → slice_get row is.place ≡ Some l → IsLastBy ways.held want.class.0 want.delay want.time l → (slice_get plan.inputs.now want.class.0 ≡ Some (Some net)) ⊎ ((slice_get plan.inputs.now want.class.0 ≡ Some None) × (j : ℕ) × IsNodeBy trail.nodes.items want.exact want.class.0 is.place j × (net ≡ plan.count + j)) → IsPinNet s ways.held sites_of want.exact want.class.0 want.delay want.time net
      by_case row at e l there last (inl has) =
          let leaf = own.some want.class.0 net has in
          let point = subst (λ ps. Contains ps (point_in l)) e (at_contained (map point_in row) is.place (point_in l) (get_map point_in row is.place l there)) in
          let start = starts net want.class.0 is.row (point_in l) leaf is.at point in
          record {
            point = l;
            own = true;
            by = record { held_is = last.held_is; class_is = last.class_is; in_time = last.in_time };
            net_of = inl (leaf ∙ ap Some (sym last.class_is), omega (arith, start));
            last = λ yes. (refl, last);
          }
      by_case row at e l there last (inr (none, j, node, net_at)) =
          of_node row at l there last none j net_at node (earlier want.class.0 want.delay want.time row (row_is want.class.0 row at) is.place l there last.in_time node.node.place node.no_later)

  root_cut : (root : ClassId) (time : Micro) (net : ℕ) → IsCut plan.curves.now.points root.0 time.0 → IsNetBy plan trail (root_want root time false) net → IsRootNet s ways.held sites_of root.0 time.0 net
  root_cut root time net cut is =
      let (row, at, e) = points_back root.0 cut.row cut.at in
      let (l, there, last) = placed_last ways.held root.0 row (row_is root.0 row at) 0 time.0 cut.place (subst (λ ps. IsLastIn ps 0 time.0 cut.place) (sym e) cut.last) in
      let point : cut.last.point ≡ point_in l = same_Some cut.last.point (point_in l) (sym cut.last.at ∙ (ap (λ ps. slice_get ps cut.place) (sym e) ∙ get_map point_in row cut.place l there)) in
      let area = ap (λ (p : Point). p.area) point in
      let most = cut.cut in
      record {
        exact = false;
        is = net_is (root_want root time false) net is;
        cut = λ f. (l, last, subst (λ n. most_area ≤ n) area most);
      }

  root_is : (root : ClassId) (time : Micro) (net : ℕ) → IsRootBy plan trail root time net → IsRootNet s ways.held sites_of root.0 time.0 net
  root_is root time net by = by_case by.right
    where
      by_case : IsNetBy plan trail (root_want root time true) net ⊎ (IsCut plan.curves.now.points root.0 time.0 × IsNetBy plan trail (root_want root time false) net) → IsRootNet s ways.held sites_of root.0 time.0 net
      by_case (inl is) = record {
        exact = true;
        is = net_is (root_want root time true) net is;
        cut = λ e. absurd (true≢false e);
      }
      by_case (inr (cut, is)) = root_cut root time net cut is

  pin_nets : (d : Demand) (ds : List Micro) (ps : List ClassId) (ns : List ℕ) → length ns ≡ length ps → length ds ≡ length ps → ((k : ℕ) (p : ClassId) (delay : Micro) (net : ℕ) → slice_get ps k ≡ Some p → slice_get ds k ≡ Some delay → slice_get ns k ≡ Some net → IsNetBy plan trail (want_of_pin d p delay) net) → HavePinNets s ways.held sites_of d.exact d.time (map millionths ds) (numbers ps) ns
  pin_nets d [] [] [] e f each = tt
  pin_nets d [] [] (n ∷ ns) e f each = absurd (omega (arith, e))
  pin_nets d [] (p ∷ ps) ns e f each = absurd (omega (arith, f))
  pin_nets d (x ∷ ds) [] ns e f each = absurd (omega (arith, f))
  pin_nets d (x ∷ ds) (p ∷ ps) [] e f each = absurd (omega (arith, e))
  pin_nets d (x ∷ ds) (p ∷ ps) (n ∷ ns) e f each =
      (net_is (want_of_pin d p x) n (each 0 p x n refl refl refl), pin_nets d ds ps ns (omega (arith, e)) (omega (arith, f)) (λ k q c m at bt ct. each (suc k) q c m at bt ct))

  root_nets : (rs : List ClassId) (ts : List Micro) (ns : List ℕ) → length ns ≡ length rs → length ts ≡ length rs → ((k : ℕ) (r : ClassId) (t : Micro) (net : ℕ) → slice_get rs k ≡ Some r → slice_get ts k ≡ Some t → slice_get ns k ≡ Some net → IsRootBy plan trail r t net) → HaveRootNets s ways.held sites_of rs ts ns
  root_nets [] [] [] e f each = tt
  root_nets [] [] (n ∷ ns) e f each = absurd (omega (arith, e))
  root_nets [] (t ∷ ts) ns e f each = absurd (omega (arith, f))
  root_nets (r ∷ rs) [] ns e f each = absurd (omega (arith, f))
  root_nets (r ∷ rs) (t ∷ ts) [] e f each = absurd (omega (arith, e))
  root_nets (r ∷ rs) (t ∷ ts) (n ∷ ns) e f each =
      (root_is r t n (each 0 r t n refl refl refl), root_nets rs ts ns (omega (arith, e)) (omega (arith, f)) (λ k q c m at bt ct. each (suc k) q c m at bt ct))

  module _ (right : IsRightWalk plan trail) where
    in_nodes : (j : ℕ) (site : Site) → slice_get sites_of j ≡ Some site → j < length trail.nodes.items
    in_nodes j site at = let lt = slice_get_within sites_of j site at in let e = length-map trail.nodes.items site_of in omega (arith, lt, e)

    -- the point of the node with a number, and when it comes
    point_of : (j : ℕ) (is : IsGateRight plan trail j) → (h : Held) × IsHeldAt is.node h × (point_in h ≡ is.right.is.point)
    point_of j is =
        let (row, at, e) = points_back is.node.class.0 is.right.is.row is.right.is.row_at in
        let (h, there, same) = map_get point_in row is.node.place is.right.is.point (ap (λ ps. slice_get ps is.node.place) e ∙ is.right.is.point_at) in
        (h, record { row = row; row_at = at; at = there }, same)

    own_point : (j : ℕ) (site : Site) → slice_get sites_of j ≡ Some site → (is : IsGateRight plan trail j) → IsHeldAt is.node site.point × (point_in site.point ≡ is.right.is.point) × (is.node.exact ≡ site.exact)
    own_point j site at is =
        let (k, there, same) = point_of j is in
        let here : Some (site_of is.node) ≡ Some site = sym (get_map site_of trail.nodes.items j is.node is.node_at) ∙ at in
        let whole : site_of is.node ≡ site = same_Some (site_of is.node) site here in
        let e : k ≡ site.point = sym (held_is is.node k there) ∙ ap (λ (x : Site). x.point) whole in
        (subst (IsHeldAt is.node) e there, subst (λ (x : Held). point_in x ≡ is.right.is.point) e same, ap (λ (x : Site). x.exact) whole)

    gate_is : (j : ℕ) (site : Site) (cell : CellId) → slice_get sites_of j ≡ Some site → slice_get trail.walk.cells.items j ≡ Some cell → IsGateOfPoint s plan.curves.now.choices ways.held sites_of site (record { cell = cell.0; pins = fanins_at trail.walk.pins.items j })
    gate_is j site cell at bt =
        let h = site.point in
        let is = right.gates j (in_nodes j site at) in
        let (there, point, mode) = own_point j site at is in
        let stands = is.right.is.stands in
        let (row, row_at, e) = map_get (map way_in) ways.rows.rows is.node.class.0 stands.row (ap (λ ws. slice_get ws is.node.class.0) (sym ways.rows.ways_are) ∙ stands.row_at) in
        let (k, k_at, way) = map_get way_in row is.node.place stands.way (ap (λ ws. slice_get ws is.node.place) e ∙ stands.way_at) in
        let rows : row ≡ there.row = same_Some row there.row (sym row_at ∙ there.row_at) in
        let same : k ≡ h = same_Some k h (sym k_at ∙ (ap (λ (r : List Held). slice_get r is.node.place) rows ∙ there.at)) in
        let choice : stands.way.choice ≡ h.choice = ap (λ (w : Way). w.choice) (sym way) ∙ ap (λ (x : Held). x.choice) same in
        let cell_same : is.cell ≡ cell = same_Some is.cell cell (sym is.cell_at ∙ bt) in
        let d = is.right.demand in
        let of = is.right.is in
        let cell_is : of.gate.cell.0 ≡ cell.0 = sym of.cell_is ∙ (is.right.cell_is ∙ ap (λ (x : CellId). x.0) cell_same) in
        let own_at : slice_get s.cells cell.0 ≡ Some of.own = ap (λ (ls : List CellParts). slice_get ls cell.0) cells_are ∙ (ap (slice_get plan.lib.now) (sym cell_is) ∙ of.cell_at) in
        let time : d.time ≡ h.spot.time = of.time_is ∙ ap (λ (p : Point). p.time.0) (sym point) in
        let chosen : slice_get plan.curves.now.choices h.choice ≡ Some (record { class = stands.choice.class; part = by_gate cell.0 (numbers of.gate.pins.now) }) =
        ap (slice_get plan.curves.now.choices) (sym choice) ∙ (stands.choice_at ∙ ap (λ part. Some (record { class = stands.choice.class; part = part })) (stands.part_is ∙ ap (λ n. by_gate n (numbers of.gate.pins.now)) cell_is)) in
        let fed = pin_nets d d.delays.now d.pins.now is.row is.right.pins.one_net is.right.pins.one_delay is.right.pins.each in
        let fan : is.row ≡ fanins_at trail.walk.pins.items j = sym (get_or_from_slice_get trail.walk.pins.items j is.row [] is.row_at) in
        let delays : map millionths d.delays.now ≡ delays_of (timing s).delays cell.0 = ap (map millionths) of.delays_are ∙ sym (delays_at s.cells cell.0 of.own own_at) in
        record {
          class = stands.choice.class;
          pins = numbers of.gate.pins.now;
          chosen = chosen;
          nets = subst₂ (λ b t. HavePinNets s ways.held sites_of b t (delays_of (timing s).delays cell.0) (numbers of.gate.pins.now) (fanins_at trail.walk.pins.items j)) (of.exact_is ∙ mode) time
              (subst₂ (λ ds ns. HavePinNets s ways.held sites_of d.exact d.time ds (numbers of.gate.pins.now) ns) delays fan
              (subst (λ ps. HavePinNets s ways.held sites_of d.exact d.time (map millionths d.delays.now) (numbers ps) is.row) of.pins_are fed));
        }

    -- a point has one place
    place_once : (row : List Held) → ((i j : ℕ) (g h : Held) → i < j → slice_get row i ≡ Some g → slice_get row j ≡ Some h → g.spot.time < h.spot.time) → (h : Held) (i j : ℕ) → slice_get row i ≡ Some h → slice_get row j ≡ Some h → i ≡ j
    place_once row rising h i j it jt = by_order (cases_lt i j) (cases_lt j i)
      where
        by_order : (i < j) ⊎ (j ≤ i) → (j < i) ⊎ (i ≤ j) → i ≡ j
        by_order (inl lt) y = let t = rising i j h h lt it jt in absurd (omega (arith, t))
        by_order (inr x) (inl lt) = let t = rising j i h h lt jt it in absurd (omega (arith, t))
        by_order (inr x) (inr y) = omega (arith, x, y)

    once : (i j : ℕ) (site : Site) → slice_get sites_of i ≡ Some site → slice_get sites_of j ≡ Some site → i ≡ j
    once i j site it jt =
        let h = site.point in
        let a = right.gates i (in_nodes i site it) in
        let b = right.gates j (in_nodes j site jt) in
        let (x, xp, xe) = own_point i site it a in
        let (y, yp, ye) = own_point j site jt b in
        let class : a.node.class.0 ≡ b.node.class.0 = sym (held_there a.node h x).1 ∙ (held_there b.node h y).1 in
        let rows : x.row ≡ y.row = same_Some x.row y.row (sym x.row_at ∙ (ap (slice_get ways.rows.rows) class ∙ y.row_at)) in
        let place : a.node.place ≡ b.node.place = place_once y.row (row_is b.node.class.0 y.row y.row_at).rising h a.node.place b.node.place (ap (λ (r : List Held). slice_get r a.node.place) (sym rows) ∙ x.at) y.at in
        by_mode a.node b.node class place site.exact xe ye a.owned b.owned a.spare b.spare
      where
        by_mode : (a b : Node) → a.class.0 ≡ b.class.0 → a.place ≡ b.place → (mode : Bool) → a.exact ≡ mode → b.exact ≡ mode → (a.exact ≡ true → IsOwned trail.owners.items a i) → (b.exact ≡ true → IsOwned trail.owners.items b j) → (a.exact ≡ false → IsSpare trail.spares.items a i) → (b.exact ≡ false → IsSpare trail.spares.items b j) → i ≡ j
        by_mode a b class place true xe ye x y u v =
            let (r, r_at, i_at) = x xe in
            let (t, t_at, j_at) = y ye in
            let same : r ≡ t = same_Some r t (sym r_at ∙ (ap (slice_get trail.owners.items) class ∙ t_at)) in
            same_Some i j (sym i_at ∙ (ap (λ (v : Vec ℕ). slice_get v.items a.place) same ∙ (ap (slice_get t.items) place ∙ j_at)))
        by_mode a b class place false xe ye x y u v =
            same_Some i j (sym (u xe) ∙ (ap (slice_get trail.spares.items) class ∙ v ye))

    used_below : (m j : ℕ) → j < m → j < length trail.nodes.items → IsUsed (length s.graph.leaves) trail.walk.pins.items trail.walk.nets.items (length s.graph.leaves + j)
    used_below zero j lt in' = absurd (omega (arith, lt))
    used_below (suc m) j lt in' = by_moder (λ g le. used_below m g (omega (arith, lt, le)) (omega (arith, in', le))) (subst (λ n. IsUsedEarlier n trail.walk.pins.items trail.walk.nets.items j) count_is (right.gates j in').used)
      where
        by_moder : ((g : ℕ) → g < j → IsUsed (length s.graph.leaves) trail.walk.pins.items trail.walk.nets.items (length s.graph.leaves + g)) → IsUsedEarlier (length s.graph.leaves) trail.walk.pins.items trail.walk.nets.items j → IsUsed (length s.graph.leaves) trail.walk.pins.items trail.walk.nets.items (length s.graph.leaves + j)
        by_moder below (inl (k, at)) = by_root (at_contained trail.walk.nets.items k (length s.graph.leaves + j) at)
        by_moder below (inr (g, row, k, le, row_at, at)) =
            let fan : row ≡ fanins_at trail.walk.pins.items g = sym (get_or_from_slice_get trail.walk.pins.items g row [] row_at) in
            by_pin g (below g le) (subst (λ ns. Contains ns (length s.graph.leaves + j)) fan (at_contained row k (length s.graph.leaves + j) at))

    pub checked_walk : IsWalk s plan.curves.now.choices ways.held sites_of plan.roots.now plan.times.now trail.walk.cells.items trail.walk.pins.items trail.walk.nets.items
    checked_walk = record {
      one_cell = right.one_cell ∙ sym (length-map trail.nodes.items site_of);
      one_row = right.one_row ∙ sym (length-map trail.nodes.items site_of);
      few = let e = length-map trail.nodes.items site_of in let n = right.few in omega (arith, e, n);
      are = λ j site at. (let is = right.gates j (in_nodes j site at) in (held_there is.node site.point (own_point j site at is).0).0);
      once = once;
      gates = gate_is;
      root_nets = root_nets plan.roots.now plan.times.now trail.walk.nets.items right.roots_are.one_net right.roots_are.one_time right.roots_are.each;
      used = λ j lt. used_below (suc j) j (omega arith) (let n = right.one_row in omega (arith, lt, n));
    }
