use Rattle.std.proofs.lemmas.Result.{err_from_is_err_and}
use Rattle.lw_named_netlist.proofs.closing.graph_of.Goals as goal

pub returns-in_err-links : goal.returns-in_err-links
returns-in_err-links c =
    let p = err_from_is_err_and c.from_residual.result c.from_residual.ensures.1 in
    rw (p.1, p.2) c.in_err-links.ensures

pub returns : goal.returns
returns c = record {
  graph = c.in_ok-links.ensures.graph;
  model = cc;
  inputs = c.len.ensures;
  first = cc;
  outputs = cc;
  cells = c.in_ok-links.ensures.cells;
}
