use Rattle.std.proofs.Common.{[], sym, ap, ◌∙◌}
use Rattle.std.proofs.lemmas.Result.{err_from_is_err_and}
use Rattle.lw_named_netlist.specs.Closing.{twice_after}
use Rattle.lw_named_netlist.proofs.Paths.{fault_in_links, graph_made, twice_in_links}
use Rattle.lw_named_netlist.proofs.closing.links_of.Goals as goal

pub returns-in-Err : goal.returns-in-Err
returns-in-Err c =
    let keys = c.in_ok-signals.ensures.0 ∙ c.in_ok-names.ensures in
    let once = sym (ap (twice_after []) c.in_ok-names.ensures) ∙ c.in_ok-signals.ensures.1.once in
    fault_in_links c.args.draft.now c.in_ok-signals.signals c.in-Err.fault keys once c.in-Err.ensures

pub returns-in_err-names : goal.returns-in_err-names
returns-in_err-names c =
    let p = err_from_is_err_and c.from_residual.result c.from_residual.ensures.1 in
    rw (p.1, p.2) tt

pub returns-in_err-signals : goal.returns-in_err-signals
returns-in_err-signals c =
    let p = err_from_is_err_and c.from_residual-in_err-signals.result c.from_residual-in_err-signals.ensures.1 in
    rw (p.1, p.2) (twice_in_links c.args.draft.now c.in_ok-names.names c.in_err-signals.field-0.0 c.in_ok-names.ensures c.in_err-signals.ensures)

pub returns-in-Ok-linked : goal.returns-in-Ok-linked
returns-in-Ok-linked c = record {
  graph =
      graph_made c.args.draft.now c.in_ok-names.names c.in_ok-signals.signals c.in-Ok-linked.rows.items c.in_ok-names.ensures c.in_ok-signals.ensures.0 c.in_ok-signals.ensures.1.once c.in_ok-signals.ensures.1.few
      c.in-Ok-linked.ensures.0 c.in-Ok-linked.ensures.1;
  cells = rw c.as_slice.ensures at c.in-Ok.ensures;
}
