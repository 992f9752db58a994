use Rattle.std.proofs.Common.{◌≡◌, ◌+◌, ◌<◌, ◌∙◌, [], All, length, ap, subst, sym, arith}
use Rattle.std.proofs.lemmas.List.{get_or_read, take_all}
use Rattle.lw_dag.specs.Graphs.{fanins_at}
use Rattle.lw_named_netlist.specs.Numbered.{AreSettled, deepest, own_start, step_of}
use Rattle.lw_named_netlist.proofs.Settling.{deepest_low, placed_low, placed_node, settled_starts, settled_placed}
use Rattle.lw_named_netlist.proofs.levels.find_starts.Goals as goal

pub nodes-init : goal.nodes-init
nodes-init c = rw (c.in_ok-found.ensures.depths, c.in_ok-found.ensures.starts) (settled_starts c.args.inputs c.args.gates c.args.graph.now c.args.levels.now.heights.items)

pub nodes-preserved : goal.nodes-preserved
nodes-preserved c =
    let l = c.args.levels.now in
    let graph = c.args.graph.now in
    let j = c.index.result.now in
    let f = c.nodes.found in
    let in_order : c.nodes.at < length l.order.items = omega (arith, c.nodes-test.true) in
    let here = get_or_read l.order.items c.nodes.at j in_order c.index.ensures 0 in
    let node = placed_node c.args.inputs graph l.heights.items l.order.items c.nodes.at j c.requires.levels.ordered in_order here in
    let needs : c.as_slice.result.now ≡ fanins_at graph j = c.as_slice.ensures ∙ get_or_read graph j c.index-graph-j.result node c.index-graph-j.is [] in
    rw (c.place.ensures.depths, c.place.ensures.starts) (settled_placed c.args.inputs c.args.gates graph l.heights.items l.order.items c.nodes.at f.depths.items f.starts.items j
    (step_of c.args.gates j + deepest f.depths.items c.as_slice.result.now) (own_start c.args.gates j f.starts.items (c.args.inputs + j) c.as_slice.result.now)
    c.requires.levels.heights.known c.requires.levels.ordered in_order here (c.requires.graph j) c.nodes.invariant (ap (λ ns. step_of c.args.gates j + deepest f.depths.items ns) needs) (ap (own_start c.args.gates j f.starts.items (c.args.inputs + j)) needs))

pub returns : goal.returns
returns c =
    let l = c.args.levels.now in
    let f = c.nodes.found in
    subst (λ done. AreSettled c.args.inputs c.args.gates c.args.graph.now l.heights.items done f.depths.items f.starts.items) (take_all c.nodes.at l.order.items (omega (arith, c.nodes-test.false))) c.nodes.invariant

pub place-requires : goal.place-requires
place-requires c =
    let l = c.args.levels.now in
    let graph = c.args.graph.now in
    let j = c.index.result.now in
    let in_order : c.nodes.at < length l.order.items = omega (arith, c.nodes-test.true) in
    let here = get_or_read l.order.items c.nodes.at j in_order c.index.ensures 0 in
    let low = placed_low c.args.inputs graph l.heights.items l.order.items c.nodes.at j c.requires.levels.heights.known c.requires.levels.ordered in_order here c.requires.levels.low in
    let node = placed_node c.args.inputs graph l.heights.items l.order.items c.nodes.at j c.requires.levels.ordered in_order here in
    let needs : c.as_slice.result.now ≡ fanins_at graph j = c.as_slice.ensures ∙ get_or_read graph j c.index-graph-j.result node c.index-graph-j.is [] in
    let below = subst (All (λ s. s < c.args.inputs + length graph)) (sym needs) (c.requires.graph j) in
    record {
      own_within = omega (arith, node, c.nodes.invariant.depths_each);
      few = omega (arith, c.nodes.invariant.depths_each, c.requires.few);
      low = omega (arith, ap (deepest c.nodes.found.depths.items) needs, deepest_low l.heights.items c.nodes.found.depths.items (fanins_at graph j) c.nodes.invariant.shallow, low, c.requires.few);
      signals = subst (λ n. All (λ s. s < n) c.as_slice.result.now) (sym c.nodes.invariant.depths_each) below;
      starts_each = c.nodes.invariant.starts_each ∙ sym c.nodes.invariant.depths_each;
    }
