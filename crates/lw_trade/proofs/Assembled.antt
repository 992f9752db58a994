-- The netlist of the gates that a walk has found, by depth.
use Rattle.std.proofs.Common.{◌≡◌, ℕ, zero, suc, ◌+◌, ◌-◌, ◌<◌, ◌≤◌, ◌⊎◌, Bool, inl, inr, All, Contains, length, map, List, [], ◌∷◌, Some, slice_get, slice_index_or, refl, ap, sym, ◌∙◌, subst, arith}
use Rattle.std.specs.List.{AllByRecursion, range_with_len}
use Rattle.std.specs.List.Sorted.{IsPermutation}
use Rattle.std.proofs.lemmas.List.{get_or_past, length-map}
use Rattle.std.proofs.lemmas.List.Elements.{All-map}
use Rattle.std.proofs.lemmas.Option.{get_or_from_slice_get, same_Some, slice_get_within}
use Rattle.std.proofs.lemmas.Bool.{cases_lt}
use Rattle.lw_pool.specs.declared.id.CellId.{CellId}
use Rattle.lw_pool.specs.declared.id.ClassId.{ClassId}
use Rattle.lw_pool.specs.declared.id.NetId.{NetId}
use Rattle.lw_fixed.specs.declared.micro.Micro.{Micro}
use Rattle.lw_laws.specs.Covers.{delays_of}
use Rattle.lw_laws.specs.Networks.{greatest_depth}
use Rattle.lw_laws.specs.Netlists.{Gate, IsGate, AreNetDepths, AreByDepth, AreOrdered}
use Rattle.lw_dag.specs.Graphs.{fanins_at, height_at, tallest}
use Rattle.lw_genlib.specs.Cells.{IsLibrary}
use Rattle.lw_netlist.specs.declared.gate.Gate.{Gate as NetGate}
use Rattle.lw_netlist.specs.declared.gate.Port.{Port}
use Rattle.lw_netlist.specs.Netlists.{NetlistParts, IsGateAt}
use Rattle.lw_netlist.specs.Plain.{plain, plain_gate, HasCell, IsOver}
use Rattle.lw_backtrace.specs.declared.targets.Targets.{Targets}
use Rattle.lw_curves.specs.Backing.{Held}
use Rattle.lw_curves.specs.CurveTables.{CurveLists}
use Rattle.lw_trade.specs.Placed.{ArePlaces, IsByHeight, placed_gate, placed_net}
use Rattle.lw_choices.specs.Tasks.{Task, timing}
use Rattle.lw_backtrace.specs.Targets.{AreCurvesFor, AreTargets}
use Rattle.lw_trade.specs.Traded.{HasLeastAreaBy, IsNeeded, output_nets, port_net}
use Rattle.lw_trade.specs.Traded.IsNeeded.{by_output, by_pin}
use Rattle.lw_backtrace.specs.Sites.{Site, IsGateOfPoint, IsNetOfPoint}
use Rattle.lw_trade.specs.Trades.{IsBuilt}
use Rattle.lw_backtrace.specs.Walks.{IsRootNet, IsUsed, IsWalk}
use Rattle.lw_backtrace.specs.Walks.IsUsed.{by_root, by_pin as used_pin}
use Rattle.lw_curves.proofs.Cells.{cell_in}
use Rattle.lw_curves.proofs.Grouped.{get_map, map_get}
use Rattle.lw_choices.proofs.Lists.{at_contained, contained_at, get_some, got}
use Rattle.lw_trade.proofs.Lowest.{root_net}
use Rattle.lw_trade.proofs.Moved.{placed_low, root_at, pin_count, no_site, moved_sites, site_in, root_placed, pins_placed}
use Rattle.lw_trade.proofs.Places.{order_length, order_low, stands_there}
use Rattle.lw_trade.proofs.Standing.{pins_before_gate, placed_input, placed_node}
use Rattle.lw_trade.proofs.Walked.{roots_low, walk_graph, walk_high}
use Rattle.lw_pool.specs.Numbers.{net_number}
use Rattle.lw_cost.proofs.CellPins.{pins_at}

all_below : (m : ℕ) (places : List ℕ) (b : ℕ) (xs : List ℕ) → ((k d : ℕ) → k < length xs → placed_net m places (slice_index_or xs k d) < b) → AllByRecursion (λ p. p < b) (map (placed_net m places) xs)
all_below m places b [] h = tt
all_below m places b (x ∷ xs) h = (h 0 0 (omega arith), all_below m places b xs (λ k d lt. h (suc k) d (omega (arith, lt))))

numbers_are : (m : ℕ) (places xs : List ℕ) → map net_number (map (λ (p : ℕ). record { 0 = placed_net m places p }) xs) ≡ map (placed_net m places) xs
numbers_are m places [] = refl
numbers_are m places (x ∷ xs) = ap (λ l. placed_net m places x ∷ l) (numbers_are m places xs)

-- 1 more than the greatest depth of placed nets is their greatest height
tallest_same : (m : ℕ) (places depths heights xs : List ℕ) → ((k d : ℕ) → k < length xs → 1 + slice_index_or depths (placed_net m places (slice_index_or xs k d)) 0 ≡ height_at heights (slice_index_or xs k d)) → 1 + greatest_depth depths (map (placed_net m places) xs) ≡ tallest heights xs
tallest_same m places depths heights [] h = omega arith
tallest_same m places depths heights (x ∷ xs) h =
    let first = h 0 0 (omega arith) in
    let rest = tallest_same m places depths heights xs (λ k d lt. h (suc k) d (omega (arith, lt))) in
    omega (arith, first, rest)

module _ (s : Task) (t : Targets) (curves : CurveLists) (c : AreCurvesFor s t curves) (sites : List Site) (cells : List CellId) (graph : List (List ℕ)) (nets : List ℕ) (walk : IsWalk s curves.choices c.ways.held sites t.roots t.times cells graph nets) (order places : List ℕ) (by : IsByHeight (length s.graph.leaves) graph order) (placed : ArePlaces order places) where
  abbrev m : ℕ
  m = length s.graph.leaves

  abbrev held : List Held
  held = c.ways.held

  pub moved : IsPermutation (range_with_len 0 (length sites)) order
  moved = subst (λ k. IsPermutation (range_with_len 0 k) order) walk.one_row by.moved

  abbrev in_order : List Site
  in_order = moved_sites s sites order places moved placed

  -- the gate of a node
  abbrev made_gate : ℕ → Gate
  made_gate i = record { cell = (slice_index_or cells i (record { 0 = 0 })).0; pins = map (placed_net m places) (fanins_at graph i) }

  abbrev gate_at : ℕ → NetGate
  gate_at = placed_gate m places cells graph

  same_gate : (i : ℕ) → plain_gate (gate_at i) ≡ made_gate i
  same_gate i = ap (λ (ps : List ℕ). record { cell = (slice_index_or cells i (record { 0 = 0 })).0; pins = ps }) (numbers_are m places (fanins_at graph i))

  pub long : length order ≡ length sites
  long = order_length (length sites) order moved

  node_low : (j i : ℕ) → slice_get order j ≡ Some i → i < length sites
  node_low j i it =
      let low = order_low (length sites) order moved j 0 (slice_get_within order j i it) in
      let same = get_or_from_slice_get order j i 0 it in
      omega (arith, low, same)

  place_is : (j i : ℕ) → slice_get order j ≡ Some i → slice_index_or places i 0 ≡ j
  place_is j i it = ap (λ x. slice_index_or places x 0) (sym (get_or_from_slice_get order j i 0 it)) ∙ placed.at j (slice_get_within order j i it)

  -- where a node stands
  there : (i : ℕ) → i < length sites → slice_get order (slice_index_or places i 0) ≡ Some i
  there i lt =
      let (in', e) = stands_there order places (length sites) moved placed i lt in
      got order (slice_index_or places i 0) 0 (omega (arith, in', long)) ∙ ap Some e

  made_of_point : (i : ℕ) (h : Site) → slice_get sites i ≡ Some h → IsGateOfPoint s curves.choices held in_order h (made_gate i)
  made_of_point i h at =
      let lt = slice_get_within sites i h at in
      let (cell, bt) = get_some cells i (omega (arith, lt, walk.one_cell)) in
      let is : IsGateOfPoint s curves.choices held sites h (record { cell = (slice_index_or cells i (record { 0 = 0 })).0; pins = fanins_at graph i }) = subst (λ (x : CellId). IsGateOfPoint s curves.choices held sites h (record { cell = x.0; pins = fanins_at graph i })) (sym (get_or_from_slice_get cells i cell (record { 0 = 0 }) bt)) (walk.gates i h cell at bt) in
      record {
        class = is.class;
        pins = is.pins;
        chosen = is.chosen;
        nets = pins_placed s sites order places moved placed held h.exact h.point.spot.time (delays_of (timing s).delays (slice_index_or cells i (record { 0 = 0 })).0) is.pins (fanins_at graph i) is.nets;
      }

  pins_before : (j i : ℕ) → slice_get order j ≡ Some i → (k d : ℕ) → k < length (fanins_at graph i) → placed_net m places (slice_index_or (fanins_at graph i) k d) < m + j
  pins_before j i it k d lt =
      let low = node_low j i it in
      let before = pins_before_gate m graph order places (walk_graph s t curves c sites t.roots t.times cells graph nets walk) (walk_high s t curves c sites t.roots t.times cells graph nets walk) by placed i (omega (arith, low, walk.one_row)) k d lt in
      let here = place_is j i it in
      omega (arith, before, here)

  module _ (n : NetlistParts) (inputs_are : n.inputs ≡ m) (gates_are : n.gates ≡ map gate_at order) (outputs_are : map port_net n.outputs ≡ map (placed_net m places) nets) where
    pub gate_count : length n.gates ≡ length sites
    gate_count = ap length gates_are ∙ (length-map order gate_at ∙ long)

    gate_in : (j : ℕ) (g : NetGate) → slice_get n.gates j ≡ Some g → (i : ℕ) × (slice_get order j ≡ Some i) × (gate_at i ≡ g)
    gate_in j g at = map_get gate_at order j g (ap (λ gs. slice_get gs j) (sym gates_are) ∙ at)

    plain_in : (j : ℕ) (g : Gate) → IsGate (plain n) j g → (i : ℕ) × (slice_get order j ≡ Some i) × (made_gate i ≡ g)
    plain_in j g gt =
        let (a, at, e) = map_get plain_gate n.gates j g gt in
        let (i, it, f) = gate_in j a at in
        (i, it, sym (same_gate i) ∙ (ap plain_gate f ∙ e))

    gate_there : (j i : ℕ) → slice_get order j ≡ Some i → IsGate (plain n) j (made_gate i)
    gate_there j i it = ap (λ gs. slice_get (map plain_gate gs) j) gates_are ∙ (get_map plain_gate (map gate_at order) j (gate_at i) (get_map gate_at order j i it) ∙ ap Some (same_gate i))

    gate_of_point : (j : ℕ) (h : Site) (g : Gate) → (i : ℕ) × (slice_get order j ≡ Some i) × (slice_get sites i ≡ Some h) → (i : ℕ) × (slice_get order j ≡ Some i) × (made_gate i ≡ g) → IsGateOfPoint s curves.choices held in_order h g
    gate_of_point j h g (i, it, at) (k, kt, e) =
        let same : i ≡ k = same_Some i k (sym it ∙ kt) in
        subst (IsGateOfPoint s curves.choices held in_order h) (ap made_gate same ∙ e) (made_of_point i h at)

    are_ordered : AreOrdered (plain n)
    are_ordered j g gt = by_node (plain_in j g gt)
      where
        by_node : (i : ℕ) × (slice_get order j ≡ Some i) × (made_gate i ≡ g) → AllByRecursion (λ p. p < n.inputs + j) g.pins
        by_node (i, it, e) = subst (λ (x : Gate). AllByRecursion (λ p. p < n.inputs + j) x.pins) e (all_below m places (n.inputs + j) (fanins_at graph i) (λ k d lt. let before = pins_before j i it k d lt in omega (arith, before, inputs_are)))

    pub built : IsBuilt s curves.choices held in_order (plain n)
    built = record {
      inputs = inputs_are;
      one_each = length-map n.gates plain_gate ∙ (gate_count ∙ (sym long ∙ sym (length-map order (λ j. slice_index_or sites j (no_site s sites order places moved placed)))));
      sites_are = λ j h at. let (i, it, bt) = site_in s sites order places moved placed j h at in walk.are i h bt;
      gates = λ j h g at gt. gate_of_point j h g (site_in s sites order places moved placed j h at) (plain_in j g gt);
      ordered = are_ordered;
    }

    -- the net of a root
    net_is : (k net : ℕ) (port : Port) → slice_get nets k ≡ Some net → slice_get n.outputs k ≡ Some port → port.net.0 ≡ placed_net m places net
    net_is k net port at bt =
        same_Some port.net.0 (placed_net m places net) (sym (get_map port_net n.outputs k port bt) ∙ (ap (λ l. slice_get l k) outputs_are ∙ get_map (placed_net m places) nets k net at))

    pub least : AreTargets s.graph t → (k : ℕ) (root : ClassId) (time : Micro) (port : Port) → slice_get t.roots k ≡ Some root → slice_get t.times k ≡ Some time → slice_get n.outputs k ≡ Some port → HasLeastAreaBy s (plain n) root.0 time.0 port.net.0
    least fit k root time port at bt ct =
        let (own, net, dt, et, is) = root_at s held sites t.roots t.times nets walk.root_nets k root at in
        let same : own ≡ time = same_Some own time (sym dt ∙ bt) in
        let e = net_is k net port et ct in
        let low : root.0 < length s.graph.pairs = subst (λ (x : ClassId). x.0 < length s.graph.pairs) (get_or_from_slice_get t.roots k root root at) (fit.in_range k root (slice_get_within t.roots k root at)) in
        let within : time.0 ≤ c.horizon = subst (λ (x : Micro). x.0 ≤ c.horizon) (get_or_from_slice_get t.times k time time bt) (c.in_time k time (slice_get_within t.times k time bt)) in
        let there = subst (λ (x : Micro). IsRootNet s held sites root.0 x.0 net) same is in
        subst (HasLeastAreaBy s (plain n) root.0 time.0) (sym e) (root_net s c.horizon curves c.ways c.are in_order (plain n) built root.0 time.0 (placed_net m places net) low within (root_placed s sites order places moved placed held root.0 time.0 net there))

    pub tied : (k i : ℕ) (root : ClassId) (port : Port) → slice_get t.roots k ≡ Some root → slice_get n.outputs k ≡ Some port → slice_get s.graph.leaves i ≡ Some root.0 → slice_get s.graph.leaves port.net.0 ≡ Some root.0
    tied k i root port at bt leaf =
        let (own, net, dt, et, is) = root_at s held sites t.roots t.times nets walk.root_nets k root at in
        by_net net is.is.own is.is.point (net_is k net port et bt) is.is.by.class_is is.is.net_of
      where
        by_net : (net : ℕ) (exact : Bool) (l : Held) → port.net.0 ≡ placed_net m places net → l.spot.class ≡ root.0 → IsNetOfPoint s sites exact l net → slice_get s.graph.leaves port.net.0 ≡ Some root.0
        by_net net exact l e class (inl (lt, start)) =
            ap (slice_get s.graph.leaves) (e ∙ placed_input m places net (slice_get_within s.graph.leaves net l.spot.class lt)) ∙ (lt ∙ ap Some class)
        by_net net exact l e class (inr (none, j, jt, f)) = absurd (none i (leaf ∙ ap Some (sym class)))

    used_needed : (net : ℕ) → IsUsed m graph nets net → IsNeeded (output_nets n) (plain n) (placed_net m places net)
    used_needed net (by_root has) =
        let (k, at) = contained_at nets net has in
        by_output (subst (λ l. Contains l (placed_net m places net)) (sym outputs_are) (at_contained (map (placed_net m places) nets) k (placed_net m places net) (get_map (placed_net m places) nets k net at)))
    used_needed net (used_pin j used has) = by_row (contained_at (fanins_at graph j) net has) (used_needed (m + j) used) (cases_lt j (length graph))
      where
        by_row : (k : ℕ) × (slice_get (fanins_at graph j) k ≡ Some net) → IsNeeded (output_nets n) (plain n) (placed_net m places (m + j)) → (j < length graph) ⊎ (length graph ≤ j) → IsNeeded (output_nets n) (plain n) (placed_net m places net)
        by_row (k, at) needed (inl lt) =
            let p = slice_index_or places j 0 in
            let same : placed_net m places (m + j) ≡ n.inputs + p = placed_node m places j ∙ ap (λ x. x + p) (sym inputs_are) in
            by_pin p (made_gate j) (subst (IsNeeded (output_nets n) (plain n)) same needed) (gate_there p j (there j (omega (arith, lt, walk.one_row)))) (at_contained (map (placed_net m places) (fanins_at graph j)) k (placed_net m places net) (get_map (placed_net m places) (fanins_at graph j) k net at))
        by_row (k, at) needed (inr past) =
            let e = ap length (get_or_past graph j [] past) in
            let lt = slice_get_within (fanins_at graph j) k net at in
            absurd (omega (arith, e, lt))

    pub all_needed : (j : ℕ) (g : Gate) → IsGate (plain n) j g → IsNeeded (output_nets n) (plain n) (n.inputs + j)
    all_needed j g gt =
        let (i, it, e) = plain_in j g gt in
        let low = node_low j i it in
        let same : placed_net m places (m + i) ≡ n.inputs + j = placed_node m places i ∙ (let p = place_is j i it in omega (arith, p, inputs_are)) in
        subst (IsNeeded (output_nets n) (plain n)) same (used_needed (m + i) (walk.used i (omega (arith, low, walk.one_row))))

    module _ (depths : List ℕ) (are : AreNetDepths (plain n) depths) where
      -- a net is 1 higher than it is deep
      same_heights : (b j : ℕ) → j < b → j < length order → 1 + slice_index_or depths (n.inputs + j) 0 ≡ height_at by.heights (m + slice_index_or order j 0)
      same_heights zero j lt in' = absurd (omega (arith, lt))
      same_heights (suc b) j lt in' =
          let i = slice_index_or order j 0 in
          let it : slice_get order j ≡ Some i = got order j 0 in' in
          let low : i < length graph = (let f = node_low j i it in omega (arith, f, walk.one_row)) in
          let deep = get_or_from_slice_get depths (n.inputs + j) (1 + greatest_depth depths (made_gate i).pins) 0 (are.gates j (made_gate i) (gate_there j i it)) in
          let own = (by.are.known.placed i low (walk_high s t curves c sites t.roots t.times cells graph nets walk by.heights by.are i low)).height in
          let all = tallest_same m places depths by.heights (fanins_at graph i) (λ k d kt. fanin_same (λ p lp ip. same_heights b p lp ip) (slice_index_or (fanins_at graph i) k d) (walk_graph s t curves c sites t.roots t.times cells graph nets walk i k d kt) (pins_before j i it k d kt) (cases_lt (slice_index_or (fanins_at graph i) k d) m)) in
          omega (arith, deep, own, all)
        where
          fanin_same : ((p : ℕ) → p < b → p < length order → 1 + slice_index_or depths (n.inputs + p) 0 ≡ height_at by.heights (m + slice_index_or order p 0)) → (net : ℕ) → net < m + length graph → placed_net m places net < m + j → (net < m) ⊎ (m ≤ net) → 1 + slice_index_or depths (placed_net m places net) 0 ≡ height_at by.heights net
          fanin_same shorter net low before (inl input) =
              let one = by.are.known.given_ones net input in
              let none = get_or_from_slice_get depths net 0 0 (are.inputs net (omega (arith, input, inputs_are))) in
              let e = ap (λ x. slice_index_or depths x 0) (placed_input m places net input) in
              omega (arith, one, none, e)
          fanin_same shorter net low before (inr ge) =
              let i : net ≡ m + (net - m) = omega (arith, ge) in
              let e = ap (placed_net m places) i ∙ placed_node m places (net - m) in
              let (in', f) = stands_there order places (length graph) by.moved placed (net - m) (omega (arith, low, ge)) in
              let p = slice_index_or places (net - m) 0 in
              let ih = shorter p (omega (arith, lt, e, before)) (omega (arith, in', long, walk.one_row)) in
              let same : placed_net m places net ≡ n.inputs + p = omega (arith, e, inputs_are) in
              ap (λ x. 1 + slice_index_or depths x 0) same ∙ (ih ∙ (ap (λ x. height_at by.heights (m + x)) f ∙ ap (height_at by.heights) (sym i)))

      rising : (i j : ℕ) → i < j → j < length order → slice_index_or depths (n.inputs + i) 0 ≤ slice_index_or depths (n.inputs + j) 0
      rising i j lt in' =
          let a = same_heights (suc i) i (omega arith) (omega (arith, lt, in')) in
          let b = same_heights (suc j) j (omega arith) in' in
          let up = by.rising i j 0 (omega (arith, lt)) in' in
          omega (arith, a, b, up)

    pub are_by_depth : AreByDepth (plain n)
    are_by_depth depths are i j lt in' = rising depths are i j lt (let a = length-map n.gates plain_gate in omega (arith, a, gate_count, long, in'))

    pub is_over : IsLibrary s.cells → IsOver s.cells n
    is_over lib k d lt = by_node (gate_in k (slice_index_or n.gates k d) (got n.gates k d lt))
      where
        of_node : (i : ℕ) → i < length sites → HasCell s.cells (gate_at i)
        of_node i low =
            let (h, at) = get_some sites i low in
            let is = made_of_point i h at in
            let cell = (made_gate i).cell in
            let may = c.ways.choices.each h.point.choice (record { class = is.class; part = Rattle.lw_choices.specs.Choices.Part.gate cell is.pins }) is.chosen in
            let (parts, bt) = get_some s.cells cell (cell_in s.cells cell (length is.pins) may.pins) in
            let a = pins_at s.cells cell (length is.pins) parts bt may.pins in
            let b = pin_count s held in_order h.exact h.point.spot.time (delays_of (timing s).delays cell) is.pins (made_gate i).pins is.nets in
            let kept = (subst Rattle.lw_genlib.specs.Cells.IsListed (get_or_from_slice_get s.cells cell parts parts bt) (lib.each cell parts (slice_get_within s.cells cell parts bt))).kept.delays in
            let many = length-map (fanins_at graph i) (placed_net m places) in
            let own : length (gate_at i).pins ≡ length (fanins_at graph i) = length-map (fanins_at graph i) (λ (p : ℕ). record { 0 = placed_net m places p }) in
            record { cell = parts; at = bt; pins = omega (arith, a, b, kept, many, own) }

        by_node : (i : ℕ) × (slice_get order k ≡ Some i) × (gate_at i ≡ slice_index_or n.gates k d) → HasCell s.cells (slice_index_or n.gates k d)
        by_node (i, it, e) = subst (HasCell s.cells) e (of_node i (node_low k i it))

    -- what each netlist keeps
    pub gate_kept : (j : ℕ) (g : NetGate) → slice_get n.gates j ≡ Some g → IsGateAt n.inputs j g
    gate_kept j g at = by_node (gate_in j g at)
      where
        by_node : (i : ℕ) × (slice_get order j ≡ Some i) × (gate_at i ≡ g) → IsGateAt n.inputs j g
        by_node (i, it, e) = subst (IsGateAt n.inputs j) e (record {
          drives = placed_node m places i ∙ (let p = place_is j i it in omega (arith, p, inputs_are));
          before = All-map (λ (net : NetId). net.0 < n.inputs + j) (λ (p : ℕ). record { 0 = placed_net m places p }) (fanins_at graph i) (λ k d lt. let before = pins_before j i it k d lt in omega (arith, before, inputs_are));
        })

  -- the nets of the roots
  pub nets_placed : All (λ x. x < m + length sites) (map (placed_net m places) nets)
  nets_placed = All-map (λ x. x < m + length sites) (placed_net m places) nets (λ k d lt.
      let low = (roots_low s held sites t.roots t.times nets walk.root_nets).1 k d lt in
      let lower = placed_low m order places placed (slice_index_or nets k d) (omega (arith, low, long)) in
      omega (arith, lower, long))
