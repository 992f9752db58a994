use Rattle.std.proofs.Common.{◌≡◌, ◌+◌, ◌-◌, length, take, drop, sym, ap, ◌∙◌, arith}
use Rattle.std.specs.List.{range_with_len}
use Rattle.lw_named_netlist.proofs.Moving.{cells_many}
use Rattle.lw_named_netlist.proofs.Closed.{slice_is, slice_length, slice_least, is_placed, is_closed, is_over}
use Rattle.lw_named_netlist.proofs.making.close.Goals as goal

pub places_by-requires : goal.places_by-requires
places_by-requires c =
    let draft = c.args.draft in
    let graph = c.in_ok-graph.graph in
    let made = c.in_ok-graph.ensures in
    let depths = c.in_ok-found.found.depths.items in
    let starts = c.in_ok-found.found.starts.items in
    let right = c.in_ok-found.ensures draft made in
    let counted : c.len.result ≡ length graph.cells.items = omega (arith, c.len.ensures, graph.cells.ok.0) in
    let many : c.len.result ≡ length draft.gates = counted ∙ cells_many draft graph made in
    let slice = take (graph.inputs + c.len.result - graph.inputs) (drop graph.inputs c.deref.result.now) in
    let sliced = slice_is draft depths c.deref.result.now graph.inputs c.len.result made.inputs many c.deref.ensures.value in
    slice_least draft graph made depths starts right slice sliced

pub placed-netlist-requires : goal.placed-netlist-requires
placed-netlist-requires c =
    let draft = c.args.draft in
    let graph = c.in_ok-graph.graph in
    let made = c.in_ok-graph.ensures in
    let depths = c.in_ok-found.found.depths.items in
    let starts = c.in_ok-found.found.starts.items in
    let right = c.in_ok-found.ensures draft made in
    let counted : c.len.result ≡ length graph.cells.items = omega (arith, c.len.ensures, graph.cells.ok.0) in
    let many : c.len.result ≡ length draft.gates = counted ∙ cells_many draft graph made in
    let slice = take (graph.inputs + c.len.result - graph.inputs) (drop graph.inputs c.deref.result.now) in
    let sliced = slice_is draft depths c.deref.result.now graph.inputs c.len.result made.inputs many c.deref.ensures.value in
    let all = range_with_len 0 (length slice) in
    let ranged : all ≡ range_with_len 0 (length draft.gates) = ap (range_with_len 0) (sym (slice_length draft graph made depths starts right slice sliced)) in
    let moved = c.in-Ok.ensures.permutation in
    let rising = c.in-Ok.ensures.rising in
    (draft, rw (c.deref-2.ensures.value, c.deref-3.ensures.value) (is_placed draft graph made depths starts right slice sliced c.args.lib.now c.requires all c.in-Ok.places.items ranged moved rising))

pub returns-clause-closed : goal.returns-clause-closed
returns-clause-closed c =
    let draft = c.args.draft in
    let graph = c.in_ok-graph.graph in
    let made = c.in_ok-graph.ensures in
    let depths = c.in_ok-found.found.depths.items in
    let starts = c.in_ok-found.found.starts.items in
    let right = c.in_ok-found.ensures draft made in
    let counted : c.len.result ≡ length graph.cells.items = omega (arith, c.len.ensures, graph.cells.ok.0) in
    let many : c.len.result ≡ length draft.gates = counted ∙ cells_many draft graph made in
    let slice = take (graph.inputs + c.len.result - graph.inputs) (drop graph.inputs c.deref.result.now) in
    let sliced = slice_is draft depths c.deref.result.now graph.inputs c.len.result made.inputs many c.deref.ensures.value in
    let all = range_with_len 0 (length slice) in
    let ranged : all ≡ range_with_len 0 (length draft.gates) = ap (range_with_len 0) (sym (slice_length draft graph made depths starts right slice sliced)) in
    let moved = c.in-Ok.ensures.permutation in
    let rising = c.in-Ok.ensures.rising in
    is_closed draft graph made depths starts right slice sliced c.args.lib.now c.requires all c.in-Ok.places.items ranged moved rising
    c.in_ok-netlist.field-0 ((rw (c.deref-2.ensures.value, c.deref-3.ensures.value) at c.in_ok-netlist.ensures) draft (is_placed draft graph made depths starts right slice sliced c.args.lib.now c.requires all c.in-Ok.places.items ranged moved rising))
    c.in-Ok.ensures.order

pub returns-clause-over : goal.returns-clause-over
returns-clause-over c =
    let draft = c.args.draft in
    let graph = c.in_ok-graph.graph in
    let made = c.in_ok-graph.ensures in
    let depths = c.in_ok-found.found.depths.items in
    let starts = c.in_ok-found.found.starts.items in
    let right = c.in_ok-found.ensures draft made in
    let counted : c.len.result ≡ length graph.cells.items = omega (arith, c.len.ensures, graph.cells.ok.0) in
    let many : c.len.result ≡ length draft.gates = counted ∙ cells_many draft graph made in
    let slice = take (graph.inputs + c.len.result - graph.inputs) (drop graph.inputs c.deref.result.now) in
    let sliced = slice_is draft depths c.deref.result.now graph.inputs c.len.result made.inputs many c.deref.ensures.value in
    let all = range_with_len 0 (length slice) in
    let ranged : all ≡ range_with_len 0 (length draft.gates) = ap (range_with_len 0) (sym (slice_length draft graph made depths starts right slice sliced)) in
    let moved = c.in-Ok.ensures.permutation in
    let rising = c.in-Ok.ensures.rising in
    is_over draft graph made depths starts right slice sliced c.args.lib.now c.requires all c.in-Ok.places.items ranged moved rising
    c.in_ok-netlist.field-0 ((rw (c.deref-2.ensures.value, c.deref-3.ensures.value) at c.in_ok-netlist.ensures) draft (is_placed draft graph made depths starts right slice sliced c.args.lib.now c.requires all c.in-Ok.places.items ranged moved rising))
