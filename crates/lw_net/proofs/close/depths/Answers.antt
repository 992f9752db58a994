use Rattle.std.proofs.Common.{◌≡◌, ◌+◌, ◌<◌, Some, slice_get, length, sym, ap, ◌∙◌, arith}
use Rattle.std.proofs.lemmas.List.{length-map, get_or_read}
use Rattle.std.proofs.lemmas.Option.{slice_get-get_or}
use Rattle.lw_net.specs.Numbers.{draft_in}
use Rattle.lw_net.specs.Written.{name_at, named_node, named_nodes}
use Rattle.lw_net.proofs.Paths.{is_graph, many_nodes, fault_first, right_depths}
use Rattle.lw_net.proofs.Writing.{named_here}
use Rattle.lw_net.proofs.close.depths.Goals as goal

pub find_levels-requires-clause-graph : goal.find_levels-requires-clause-graph
find_levels-requires-clause-graph c =
    let w = c.args.w.now in
    let many : c.len-inputs.result ≡ length (draft_in w).inputs = omega (arith, c.len-inputs.ensures, length-map w.inputs.items (name_at w.names.keys)) in
    rw (c.requires.graph.numbers, many) (is_graph (draft_in w) c.requires.draft.draft.signals c.requires.graph.fanins)

pub first_on_cycle-requires-clause-graph : goal.first_on_cycle-requires-clause-graph
first_on_cycle-requires-clause-graph c =
    let w = c.args.w.now in
    let many : c.len-inputs.result ≡ length (draft_in w).inputs = omega (arith, c.len-inputs.ensures, length-map w.inputs.items (name_at w.names.keys)) in
    rw (c.requires.graph.numbers, many) (is_graph (draft_in w) c.requires.draft.draft.signals c.requires.graph.fanins)

pub returns-in-Some-clause-fault : goal.returns-in-Some-clause-fault
returns-in-Some-clause-fault c =
    let w = c.args.w.now in
    let keys = w.names.keys in
    let nodes = w.nodes.items in
    let place = c.in-Some.place in
    let first = rw c.in-Some.is at c.in_ok-first.ensures.some in
    let node = c.index-node.result.now in
    let many : c.len-inputs.result ≡ length (draft_in w).inputs = omega (arith, c.len-inputs.ensures, length-map w.inputs.items (name_at keys)) in
    let below : place < length nodes = omega (arith, first.within, ap length c.requires.graph.numbers, many_nodes (draft_in w) c.requires.draft.draft.signals c.requires.graph.fanins, length-map nodes (named_node keys)) in
    let here = named_here keys nodes place node below (get_or_read nodes place node below c.index-node.ensures node) in
    let at : slice_get (named_nodes keys nodes) place ≡ Some (named_node keys node) =
    slice_get-get_or (named_nodes keys nodes) place (named_node keys node) (omega (arith, length-map nodes (named_node keys))) ∙ ap (λ n. Some n) (sym here) in
    fault_first (draft_in w) c.len-inputs.result c.args.graph.now place (named_node keys node) c.in_ok-name.name many c.requires.graph.numbers c.requires.draft.draft.signals c.requires.graph.fanins c.requires.graph.defined first at c.in_ok-name.ensures

pub returns-clause-right : goal.returns-clause-right
returns-clause-right c =
    let w = c.args.w.now in
    let many : c.len-inputs.result ≡ length (draft_in w).inputs = omega (arith, c.len-inputs.ensures, length-map w.inputs.items (name_at w.names.keys)) in
    let none = rw (c.in_default.is, c.deref.ensures.value) at c.in_ok-first.ensures.none in
    right_depths (draft_in w) c.len-inputs.result c.args.graph.now c.in_ok-levels.levels.heights.items c.in_ok-depths.depths.items many c.requires.graph.numbers c.requires.draft.draft.signals c.requires.graph.fanins c.requires.graph.defined c.in_ok-levels.ensures.heights
    (λ j lt. none (c.len-inputs.result + j) 0 lt) (rw c.deref-2.ensures.value at c.in_ok-depths.ensures)
