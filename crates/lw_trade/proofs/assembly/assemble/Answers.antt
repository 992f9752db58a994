use Rattle.std.proofs.Common.{◌≡◌, ℕ, ◌+◌, ◌<◌, All, List, length, map, get_or, ap, sym, ◌∙◌, subst, arith}
use Rattle.std.specs.List.{range_with_len}
use Rattle.std.specs.List.Sorted.{IsPermutation}
use Rattle.std.proofs.lemmas.List.{length-map}
use Rattle.std.proofs.lemmas.List.FromFn.{length-range_with_len}
use Rattle.lw_laws.specs.Names.{net_names}
use Rattle.lw_naming.proofs.NameCount.{name_count}
use Rattle.lw_netlist.specs.Netlists.{NetlistParts}
use Rattle.lw_pool.specs.declared.id.CellId.{CellId}
use Rattle.lw_netlist.specs.declared.gate.Gate.{Gate}
use Rattle.lw_trade.specs.Traded.{IsTraded, port_net}
use Rattle.lw_trade.proofs.Assembled.{long, gate_count, least, tied, all_needed, are_by_depth, is_over, gate_kept, nets_placed}
use Rattle.lw_trade.proofs.Moved.{below_by}
use Rattle.lw_dag.specs.Graphs.{IsGraph}
use Rattle.lw_trade.specs.Placed.{ArePlaces, HaveHeights, IsByHeight, placed_gate, placed_net}
use Rattle.lw_trade.proofs.Places.{order_length, order_low}
use Rattle.lw_trade.proofs.Walked.{roots_low, walk_graph, walk_high}
use Rattle.lw_trade.proofs.assembly.assemble.Goals as goal
use Rattle.lw_netlist.specs.Plain.{port_name}

-- The facts of the calls, of the walk's own lists.

module _ (m n : ℕ) (e : m ≡ n) (order places : List ℕ) where
  by_of : (g h : List (List ℕ)) → g ≡ h → IsByHeight n g order → IsByHeight m h order
  by_of g h same by = subst (λ x. IsByHeight m x order) same (subst (λ i. IsByHeight i g order) (sym e) by)

  gates_as : (cells : List CellId) (graph : List (List ℕ)) (ps os : List ℕ) (gates : List Gate) → ps ≡ places → os ≡ order → gates ≡ map (placed_gate n ps cells graph) os → gates ≡ map (placed_gate m places cells graph) order
  gates_as cells graph ps os gates f g same =
      same ∙ (ap (λ l. map (placed_gate n l cells graph) os) f ∙ (ap (map (placed_gate n places cells graph)) g ∙ ap (λ k. map (placed_gate k places cells graph) order) (sym e)))

  nets_as : (nets ps xs all : List ℕ) → ps ≡ places → xs ≡ nets → all ≡ map (placed_net n ps) xs → all ≡ map (placed_net m places) nets
  nets_as nets ps xs all f g same =
      same ∙ (ap (λ l. map (placed_net n l) xs) f ∙ (ap (map (placed_net n places)) g ∙ ap (λ k. map (placed_net k places) nets) (sym e)))

pub by_depth-requires-clause-graph : goal.by_depth-requires-clause-graph
by_depth-requires-clause-graph c =
    let (s, curves, are, nodes, fit, e, walk) = c.requires.walk in
    let w = c.args.walk.now in
    let t = c.args.targets.now in
    subst (IsGraph c.args.inputs) (sym c.deref.ensures.value) (subst (λ m. IsGraph m w.pins.items) e (walk_graph s t curves are nodes t.roots t.times w.cells.items w.pins.items w.nets.items walk))

pub by_depth-requires-clause-high : goal.by_depth-requires-clause-high
by_depth-requires-clause-high c =
    let (s, curves, are, nodes, fit, e, walk) = c.requires.walk in
    let w = c.args.walk.now in
    let t = c.args.targets.now in
    subst (HaveHeights c.args.inputs) (sym c.deref.ensures.value) (subst (λ m. HaveHeights m w.pins.items) e (walk_high s t curves are nodes t.roots t.times w.cells.items w.pins.items w.nets.items walk))

pub places_in-requires-clause-few : goal.places_in-requires-clause-few
places_in-requires-clause-few c =
    let (s, curves, are, nodes, fit, e, walk) = c.requires.walk in
    let by = c.in_ok-order.ensures in
    let n = length c.deref.result.now in
    let rows = ap length c.deref.ensures.value in
    let long = order_length n c.in_ok-order.order.items by.moved in
    let same = ap length c.deref-2.ensures.value in
    omega (arith, same, long, rows, walk.one_row, walk.few)

pub places_in-requires-clause-moved : goal.places_in-requires-clause-moved
places_in-requires-clause-moved c =
    let (s, curves, are, nodes, fit, e, walk) = c.requires.walk in
    let by = c.in_ok-order.ensures in
    let n = length c.deref.result.now in
    let rows = ap length c.deref.ensures.value in
    let long = order_length n c.in_ok-order.order.items by.moved in
    let same = c.deref-2.ensures.value in
    let many : n ≡ length c.deref-2.result.now = sym long ∙ sym (ap length same) in
    subst (λ l. IsPermutation (range_with_len 0 (length c.deref-2.result.now)) l) (sym same) (subst (λ k. IsPermutation (range_with_len 0 k) c.in_ok-order.order.items) many by.moved)

pub gates_of-requires-clause-fit : goal.gates_of-requires-clause-fit
gates_of-requires-clause-fit c =
    let (s, curves, are, nodes, fit, e, walk) = c.requires.walk in
    let by = c.in_ok-order.ensures in
    let n = length c.deref.result.now in
    let rows = ap length c.deref.ensures.value in
    let long = order_length n c.in_ok-order.order.items by.moved in
    let same = ap length c.deref-2.ensures.value in
    let places = ap length c.deref-3.ensures.value in
    let one = c.in_ok-places.ensures.one_each in
    let many : length c.deref-2.result.now ≡ length c.deref-3.result.now = omega (arith, places, one) in
    let low = subst (All (λ p. p < length c.deref-2.result.now)) (sym c.deref-3.ensures.value) c.in_ok-places.ensures.low in
    record {
      fit = record {
        few = omega (arith, same, places, one, long, rows, walk.one_row, walk.few, fit.few_inputs, e);
        low = subst (λ b. All (λ p. p < b) c.deref-3.result.now) many low;
      };
      cells = omega (arith, same, places, one, long, rows, walk.one_row, walk.one_cell);
      rows = omega (arith, same, places, one, long, rows);
    }

pub gates_of-requires-clause-pins : goal.gates_of-requires-clause-pins
gates_of-requires-clause-pins c =
    let (s, curves, are, nodes, fit, e, walk) = c.requires.walk in
    let w = c.args.walk.now in
    let t = c.args.targets.now in
    subst (λ m. IsGraph m w.pins.items) e (walk_graph s t curves are nodes t.roots t.times w.cells.items w.pins.items w.nets.items walk)

pub gates_of-requires-clause-order : goal.gates_of-requires-clause-order
gates_of-requires-clause-order c =
    let (s, curves, are, nodes, fit, e, walk) = c.requires.walk in
    let by = c.in_ok-order.ensures in
    let n = length c.deref.result.now in
    let rows = ap length c.deref.ensures.value in
    let long = order_length n c.in_ok-order.order.items by.moved in
    let same = ap length c.deref-2.ensures.value in
    let places = ap length c.deref-3.ensures.value in
    let many : n ≡ length c.deref-3.result.now = omega (arith, same, places, c.in_ok-places.ensures.one_each, long) in
    subst (λ l. All (λ j. j < length c.deref-3.result.now) l) (sym c.deref-4.ensures.value) (subst (λ k. All (λ j. j < k) c.in_ok-order.order.items) many (order_low n c.in_ok-order.order.items by.moved))

pub outputs-requires-clause-fit : goal.outputs-requires-clause-fit
outputs-requires-clause-fit c =
    let (s, curves, are, nodes, fit, e, walk) = c.requires.walk in
    let by = c.in_ok-order.ensures in
    let n = length c.deref.result.now in
    let rows = ap length c.deref.ensures.value in
    let long = order_length n c.in_ok-order.order.items by.moved in
    let same = ap length c.deref-2.ensures.value in
    let places = ap length c.deref-3.ensures.value in
    let one = c.in_ok-places.ensures.one_each in
    let many : length c.deref-2.result.now ≡ length c.deref-3.result.now = omega (arith, places, one) in
    let low = subst (All (λ p. p < length c.deref-2.result.now)) (sym c.deref-3.ensures.value) c.in_ok-places.ensures.low in
    record {
      few = omega (arith, same, places, one, long, rows, walk.one_row, walk.few, fit.few_inputs, e);
      low = subst (λ b. All (λ p. p < b) c.deref-3.result.now) many low;
    }

pub outputs-requires-clause-nets : goal.outputs-requires-clause-nets
outputs-requires-clause-nets c k d lt =
    let (s, curves, are, nodes, fit, e, walk) = c.requires.walk in
    let by = c.in_ok-order.ensures in
    let n = length c.deref.result.now in
    let rows = ap length c.deref.ensures.value in
    let long = order_length n c.in_ok-order.order.items by.moved in
    let same = ap length c.deref-2.ensures.value in
    let places = ap length c.deref-3.ensures.value in
    let t = c.args.targets.now in
    let nets = ap length c.deref-5.ensures.value in
    let low = (roots_low s are.ways.held nodes t.roots t.times c.args.walk.now.nets.items walk.root_nets).1 k d (omega (arith, nets, lt)) in
    let f = ap (λ l. get_or l k d) c.deref-5.ensures.value in
    omega (arith, same, places, c.in_ok-places.ensures.one_each, long, rows, walk.one_row, e, low, f)

pub outputs-requires-clause-one_each : goal.outputs-requires-clause-one_each
outputs-requires-clause-one_each c =
    let (s, curves, are, nodes, fit, e, walk) = c.requires.walk in
    let t = c.args.targets.now in
    let nets = ap length c.deref-5.ensures.value in
    let names = ap length c.as_slice.ensures in
    let many = (roots_low s are.ways.held nodes t.roots t.times c.args.walk.now.nets.items walk.root_nets).0 in
    omega (arith, nets, names, many, fit.one_root)

pub names_of-requires : goal.names_of-requires
names_of-requires c =
    let (s, curves, are, nodes, fit, e, walk) = c.requires.walk in
    let by' = c.in_ok-order.ensures in
    let n = length c.deref.result.now in
    let rows = ap length c.deref.ensures.value in
    let long' = order_length n c.in_ok-order.order.items by'.moved in
    let named : length (map port_name c.deref-6.result.now) ≡ length c.args.targets.now.outputs = ap (λ l. length (map port_name l)) c.deref-6.ensures.value ∙ ap length (c.in_ok-outputs.ensures.names_are ∙ c.as_slice.ensures) in
    let t = c.args.targets.now in
    let w = c.args.walk.now in
    let order = c.in_ok-order.order.items in
    let places = c.in_ok-places.places.items in
    let by = by_of (length s.graph.leaves) c.args.inputs e order places c.deref.result.now w.pins.items c.deref.ensures.value c.in_ok-order.ensures in
    let placed = subst (λ l. ArePlaces l places) c.deref-2.ensures.value c.in_ok-places.ensures in
    let outs : map port_net c.in_ok-outputs.outputs.items ≡ map (placed_net (length s.graph.leaves) places) w.nets.items = nets_as (length s.graph.leaves) c.args.inputs e order places w.nets.items c.deref-3.result.now c.deref-5.result.now (map port_net c.in_ok-outputs.outputs.items) c.deref-3.ensures.value c.deref-5.ensures.value c.in_ok-outputs.ensures.nets_are in
    let same : map port_net c.deref-6.result.now ≡ map (placed_net (length s.graph.leaves) places) w.nets.items = ap (map port_net) c.deref-6.ensures.value ∙ outs in
    let low = nets_placed s t curves are nodes w.cells.items w.pins.items w.nets.items walk order places by placed in
    let many : length s.graph.leaves + length nodes ≡ c.args.inputs + c.len.result = (let a = long s t curves are nodes w.cells.items w.pins.items w.nets.items walk order places by placed in omega (arith, a, c.len.ensures, e)) in
    record {
      few = omega (arith, c.len.ensures, long', rows, walk.one_row, walk.few, fit.few_inputs, e);
      one_name = fit.one_name ∙ e;
      few_outputs = fit.few_outputs;
      one_each = omega (arith, named, length-map c.deref-6.result.now port_name);
      nets = subst (λ b. All (λ x. x < b) (map port_net c.deref-6.result.now)) many (subst (All (λ x. x < length s.graph.leaves + length nodes)) (sym same) low);
    }

pub new-requires : goal.new-requires
new-requires c =
    let (s, curves, are, nodes, fit, e, walk) = c.requires.walk in
    let t = c.args.targets.now in
    let w = c.args.walk.now in
    let order = c.in_ok-order.order.items in
    let places = c.in_ok-places.places.items in
    let by = by_of (length s.graph.leaves) c.args.inputs e order places c.deref.result.now w.pins.items c.deref.ensures.value c.in_ok-order.ensures in
    let placed = subst (λ l. ArePlaces l places) c.deref-2.ensures.value c.in_ok-places.ensures in
    let n : NetlistParts = record { model = c.in_ok-model.model; names = c.in_ok-names.names; inputs = c.args.inputs; gates = c.from_vec-gates.result; outputs = c.from_vec-outputs.result } in
    let gates : n.gates ≡ map (placed_gate (length s.graph.leaves) places w.cells.items w.pins.items) order = gates_as (length s.graph.leaves) c.args.inputs e order places w.cells.items w.pins.items c.deref-3.result.now c.deref-4.result.now c.from_vec-gates.result c.deref-3.ensures.value c.deref-4.ensures.value (c.from_vec-gates.ensures ∙ c.in_ok-gates.ensures) in
    let outs : map port_net n.outputs ≡ map (placed_net (length s.graph.leaves) places) w.nets.items = nets_as (length s.graph.leaves) c.args.inputs e order places w.nets.items c.deref-3.result.now c.deref-5.result.now (map port_net c.from_vec-outputs.result) c.deref-3.ensures.value c.deref-5.ensures.value (ap (map port_net) c.from_vec-outputs.ensures ∙ c.in_ok-outputs.ensures.nets_are) in
    let many = gate_count s t curves are nodes w.cells.items w.pins.items w.nets.items walk order places by placed n (sym e) gates outs in
    let low = nets_placed s t curves are nodes w.cells.items w.pins.items w.nets.items walk order places by placed in
    let own = length-range_with_len c.args.inputs c.len.result in
    let ordered = long s t curves are nodes w.cells.items w.pins.items w.nets.items walk order places by placed in
    let names = ap length c.in_ok-names.ensures ∙ name_count t.inputs t.outputs (map port_net c.deref-6.result.now) (range_with_len c.args.inputs c.len.result) in
    let named : length n.names ≡ n.inputs + length n.gates = omega (arith, names, own, many, ordered, c.len.ensures, fit.one_name, e) in
    record {
      named = named;
      few = omega (arith, named, many, e, walk.few, fit.few_inputs);
      gates = gate_kept s t curves are nodes w.cells.items w.pins.items w.nets.items walk order places by placed n (sym e) gates outs;
      outputs = below_by port_net (length n.names) n.outputs (subst (λ b. All (λ x. x < b) (map port_net n.outputs)) (omega (arith, named, many, e)) (subst (All (λ x. x < length s.graph.leaves + length nodes)) (sym outs) low));
    }

pub returns : goal.returns
returns c s curves are nodes lib fit e walk =
    let t = c.args.targets.now in
    let w = c.args.walk.now in
    let order = c.in_ok-order.order.items in
    let places = c.in_ok-places.places.items in
    let by = by_of (length s.graph.leaves) c.args.inputs e order places c.deref.result.now w.pins.items c.deref.ensures.value c.in_ok-order.ensures in
    let placed = subst (λ l. ArePlaces l places) c.deref-2.ensures.value c.in_ok-places.ensures in
    let n : NetlistParts = record { model = c.in_ok-model.model; names = c.in_ok-names.names; inputs = c.args.inputs; gates = c.from_vec-gates.result; outputs = c.from_vec-outputs.result } in
    let gates : n.gates ≡ map (placed_gate (length s.graph.leaves) places w.cells.items w.pins.items) order = gates_as (length s.graph.leaves) c.args.inputs e order places w.cells.items w.pins.items c.deref-3.result.now c.deref-4.result.now c.from_vec-gates.result c.deref-3.ensures.value c.deref-4.ensures.value (c.from_vec-gates.ensures ∙ c.in_ok-gates.ensures) in
    let outs : map port_net n.outputs ≡ map (placed_net (length s.graph.leaves) places) w.nets.items = nets_as (length s.graph.leaves) c.args.inputs e order places w.nets.items c.deref-3.result.now c.deref-5.result.now (map port_net c.from_vec-outputs.result) c.deref-3.ensures.value c.deref-5.ensures.value (ap (map port_net) c.from_vec-outputs.ensures ∙ c.in_ok-outputs.ensures.nets_are) in
    let many = gate_count s t curves are nodes w.cells.items w.pins.items w.nets.items walk order places by placed n (sym e) gates outs in
    let ordered = long s t curves are nodes w.cells.items w.pins.items w.nets.items walk order places by placed in
    let roots : map port_net c.deref-6.result.now ≡ map port_net n.outputs = ap (map port_net) (c.deref-6.ensures.value ∙ sym c.from_vec-outputs.ensures) in
    let size : c.len.result ≡ length n.gates = omega (arith, c.len.ensures, many, ordered) in
    subst (IsTraded s t) (sym c.new.ensures) (record {
      over = is_over s t curves are nodes w.cells.items w.pins.items w.nets.items walk order places by placed n (sym e) gates outs lib;
      few = omega (arith, many, walk.few);
      model = c.in_ok-model.ensures ∙ c.as_bytes.ensures.bytes;
      inputs = sym e;
      names = c.in_ok-names.ensures ∙ (ap (λ l. net_names t.inputs t.outputs l (range_with_len c.args.inputs c.len.result)) roots ∙ ap (λ k. net_names t.inputs t.outputs (map port_net n.outputs) (range_with_len c.args.inputs k)) size);
      output_names = ap (map port_name) c.from_vec-outputs.ensures ∙ (c.in_ok-outputs.ensures.names_are ∙ c.as_slice.ensures);
      least = least s t curves are nodes w.cells.items w.pins.items w.nets.items walk order places by placed n (sym e) gates outs fit;
      tied = tied s t curves are nodes w.cells.items w.pins.items w.nets.items walk order places by placed n (sym e) gates outs;
      needed = all_needed s t curves are nodes w.cells.items w.pins.items w.nets.items walk order places by placed n (sym e) gates outs;
      by_depth = are_by_depth s t curves are nodes w.cells.items w.pins.items w.nets.items walk order places by placed n (sym e) gates outs;
    })
