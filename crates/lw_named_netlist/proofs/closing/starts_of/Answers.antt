use Rattle.std.proofs.Common.{◌≡◌, length, ◌∙◌, ◌+◌, get_or, ap, sym, arith}
use Rattle.std.proofs.lemmas.Option.{get_or_from_slice_get}
use Rattle.std.proofs.lemmas.Result.{err_from_is_err_and}
use Rattle.lw_named_netlist.proofs.Moving.{cells_many, keys_many, rows_many}
use Rattle.lw_named_netlist.proofs.Paths.{graph_is, fault_cycle}
use Rattle.lw_named_netlist.proofs.Starting.{right_of}
use Rattle.lw_named_netlist.proofs.closing.starts_of.Goals as goal

pub find_levels-requires-clause-graph : goal.find_levels-requires-clause-graph
find_levels-requires-clause-graph c =
    let graph = c.args.graph.now in
    let made = c.requires.1 in
    rw c.deref.ensures.value (graph_is c.requires.0 graph.signals graph.rows.items graph.inputs made.graph made.inputs)

pub first_on_cycle-requires-clause-graph : goal.first_on_cycle-requires-clause-graph
first_on_cycle-requires-clause-graph c =
    let graph = c.args.graph.now in
    let made = c.requires.1 in
    rw c.deref-2.ensures.value (graph_is c.requires.0 graph.signals graph.rows.items graph.inputs made.graph made.inputs)

pub find_starts-requires-clause-graph : goal.find_starts-requires-clause-graph
find_starts-requires-clause-graph c =
    let graph = c.args.graph.now in
    let made = c.requires.1 in
    rw c.deref-4.ensures.value (graph_is c.requires.0 graph.signals graph.rows.items graph.inputs made.graph made.inputs)

pub returns-in-Some : goal.returns-in-Some
returns-in-Some c = λ draft made.
    let graph = c.args.graph.now in
    let item = c.get-name.result.now in
    fault_cycle draft graph.signals graph.rows.items graph.inputs made.graph made.inputs c.in-Some.place item c.in_ok-name.name
    (rw (c.in-Some.is, c.deref-2.ensures.value) at c.in_ok-first.ensures.some)
    (sym (get_or_from_slice_get c.names.result.now (graph.inputs + c.in-Some.place) item item c.get-name.ensures.name) ∙ ap (λ l. get_or l (graph.inputs + c.in-Some.place) item) c.names.ensures)
    c.in_ok-name.ensures

pub returns : goal.returns
returns c = λ draft made.
    let graph = c.args.graph.now in
    right_of draft graph.signals graph.rows.items graph.inputs c.len.result c.in_ok-levels.levels.heights.items c.in_ok-levels.levels.order.items c.in_ok-found.found.depths.items c.in_ok-found.found.starts.items made.graph made.inputs (let e : c.len.result ≡ length graph.cells.items = omega (arith, c.len.ensures, graph.cells.ok.0) in e ∙ cells_many draft graph made)
    (rw c.deref.ensures.value at c.in_ok-levels.ensures.heights).known
    (rw c.deref.ensures.value at c.in_ok-levels.ensures.ordered)
    (rw c.deref-4.ensures.value at c.in_ok-found.ensures)
    (rw (c.in_default.is, c.deref-3.ensures.value) at c.in_ok-first.ensures.none)

pub first_on_cycle-requires-clause-heights : goal.first_on_cycle-requires-clause-heights
first_on_cycle-requires-clause-heights c = rw (c.deref-2.ensures.value, c.deref-3.ensures.value) (rw c.deref.ensures.value at c.in_ok-levels.ensures.heights)

pub returns-in_err-levels : goal.returns-in_err-levels
returns-in_err-levels c = λ draft made. let p = err_from_is_err_and c.from_residual.result c.from_residual.ensures.1 in rw (p.1, p.2) tt

pub returns-in_err-first : goal.returns-in_err-first
returns-in_err-first c = λ draft made. let p = err_from_is_err_and c.from_residual-in_err-first.result c.from_residual-in_err-first.ensures.1 in rw (p.1, p.2) tt

pub returns-in_err-name : goal.returns-in_err-name
returns-in_err-name c = λ draft made. let p = err_from_is_err_and c.from_residual-in_err-name.result c.from_residual-in_err-name.ensures.1 in rw (p.1, p.2) tt

pub returns-in_err-found : goal.returns-in_err-found
returns-in_err-found c = λ draft made. let p = err_from_is_err_and c.from_residual-in_err-found.result c.from_residual-in_err-found.ensures.1 in rw (p.1, p.2) tt

pub find_levels-requires-clause-few : goal.find_levels-requires-clause-few
find_levels-requires-clause-few c =
    let graph = c.args.graph.now in
    let made = c.requires.1 in
    omega (arith, ap length c.deref.ensures.value, rows_many c.requires.0 graph made, keys_many c.requires.0 graph made, ap length made.graph.names, made.graph.few, made.inputs)

pub first_on_cycle-requires-clause-few : goal.first_on_cycle-requires-clause-few
first_on_cycle-requires-clause-few c =
    let graph = c.args.graph.now in
    let made = c.requires.1 in
    omega (arith, ap length c.deref-2.ensures.value, rows_many c.requires.0 graph made, keys_many c.requires.0 graph made, ap length made.graph.names, made.graph.few, made.inputs)

pub find_starts-requires-clause-few : goal.find_starts-requires-clause-few
find_starts-requires-clause-few c =
    let graph = c.args.graph.now in
    let made = c.requires.1 in
    omega (arith, ap length c.deref-4.ensures.value, rows_many c.requires.0 graph made, keys_many c.requires.0 graph made, ap length made.graph.names, made.graph.few, made.inputs)

pub find_starts-requires-clause-levels : goal.find_starts-requires-clause-levels
find_starts-requires-clause-levels c = record {
  heights = rw c.deref-4.ensures.value (rw c.deref.ensures.value at c.in_ok-levels.ensures.heights);
  low = rw c.deref-4.ensures.value (rw c.deref.ensures.value at c.in_ok-levels.ensures.low);
  ordered = rw c.deref-4.ensures.value (rw c.deref.ensures.value at c.in_ok-levels.ensures.ordered);
}
