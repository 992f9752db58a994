use Rattle.std.proofs.Common.{◌≡◌, ◌<◌, ◌+◌, length, map, All, [], sym, ap, ap₂, subst, ◌∙◌, arith}
use Rattle.std.proofs.lemmas.List.{get_or_read}
use Rattle.lw_dag.specs.Graphs.{fanins_at}
use Rattle.lw_named_netlist.specs.Numbered.{net_at}
use Rattle.lw_named_netlist.specs.Placing.{gate_at}
use Rattle.lw_named_netlist.proofs.Moving.{cell_at, cells_many, gate_known, gate_number, gate_row, gate_with, nets_all, pins_known, row_below, rows_many}
use Rattle.lw_named_netlist.proofs.placing.closed.Goals as goal

pub nets_at-requires : goal.nets_at-requires
nets_at-requires c =
    let graph = c.args.graph.now in
    let draft = c.requires.made.0 in
    let made = c.requires.made.1 in
    let p = c.args.place in
    let rows = graph.rows.items in
    let in_gates : p < length draft.gates = omega (arith, c.requires.within, cells_many draft graph made) in
    let below : p < length rows = omega (arith, in_gates, rows_many draft graph made) in
    let row : c.as_slice.result.now ≡ fanins_at rows p = c.as_slice.ensures ∙ get_or_read rows p c.index.result.now below c.index.ensures [] in
    subst (All (λ s. s < length c.args.nets.now)) (sym row) (row_below draft graph made p (length c.args.nets.now) in_gates c.requires.count)

pub returns : goal.returns
returns c = λ draft net made tell.
    let graph = c.args.graph.now in
    let p = c.args.place in
    let rows = graph.rows.items in
    let nets = c.args.nets.now in
    let gate = gate_at draft.gates p in
    let in_gates : p < length draft.gates = omega (arith, c.requires.within, cells_many draft graph made) in
    let below : p < length rows = omega (arith, in_gates, rows_many draft graph made) in
    let row : c.as_slice.result.now ≡ fanins_at rows p = c.as_slice.ensures ∙ get_or_read rows p c.index.result.now below c.index.ensures [] in
    let cell = get_or_read graph.cells.items p c.index-2.result.now c.requires.within c.index-2.ensures (record { 0 = 0 }) ∙ cell_at draft graph made p (record { 0 = 0 }) in_gates in
    let pins = c.from_vec.ensures ∙ (c.in_ok-pins.ensures ∙ (ap (map (net_at nets)) (row ∙ gate_row draft graph made p in_gates) ∙ nets_all graph.signals nets net gate.pins tell (pins_known draft graph made p in_gates))) in
    let own : graph.inputs + p ≡ length draft.inputs + p = ap (λ n. n + p) made.inputs in
    let out = ap (net_at nets) (own ∙ sym (gate_number draft graph made p in_gates)) ∙ tell gate.out (gate_known draft graph made p in_gates) in
    ap (λ l. gate_with l c.from_vec.result (net_at nets (graph.inputs + p))) cell
    ∙ ap₂ (gate_with gate.cell) pins out
