use Rattle.std.proofs.Common.{◌<◌, All, length, refl, subst, sym}
use Rattle.std.proofs.lemmas.Result.{IfOk-from_err, err_from_is_err_and}
use Rattle.lw_net.specs.Closing.{signals_of}
use Rattle.lw_net.specs.Numbers.{draft_in, IsTable}
use Rattle.lw_net.proofs.Paths.{fault_in_fanins, fault_in_outputs, nothing_undefined}
use Rattle.lw_net.proofs.close.graph_of.Goals as goal

pub returns-in_err-graph-clause-fault : goal.returns-in_err-graph-clause-fault
returns-in_err-graph-clause-fault c =
    let draft = draft_in c.args.w.now in
    let p = err_from_is_err_and c.from_residual-in_err-graph.result c.from_residual-in_err-graph.ensures.1 in
    rw (p.1, p.2) (fault_in_fanins draft (signals_of draft) c.in_err-graph.field-0.0 refl c.in_err-graph.ensures.fault)

pub returns-in_err-_outputs-clause-fault : goal.returns-in_err-_outputs-clause-fault
returns-in_err-_outputs-clause-fault c =
    let draft = draft_in c.args.w.now in
    let p = err_from_is_err_and c.from_residual-in_err-_outputs.result c.from_residual-in_err-_outputs.ensures.1 in
    rw (p.1, p.2) (fault_in_outputs draft (signals_of draft) c.in_err-_outputs.field-0.0 refl c.in_ok-graph.ensures.defined (rw c.deref-3.ensures.value at c.in_err-_outputs.ensures.fault))

pub graph-requires : goal.graph-requires
graph-requires c = subst (IsTable c.args.w.now) (sym c.deref.ensures.value) c.in_ok-places.ensures

pub row-requires-clause-table : goal.row-requires-clause-table
row-requires-clause-table c = subst (IsTable c.args.w.now) (sym c.deref-2.ensures.value) c.in_ok-places.ensures

pub row-requires-clause-within : goal.row-requires-clause-within
row-requires-clause-within c =
    let count = length c.args.w.now.names.keys in
    subst (All (λ n. n < count)) (sym c.deref-3.ensures.value) c.requires.kept.outputs

pub returns-in_err-graph-clause-graph : goal.returns-in_err-graph-clause-graph
returns-in_err-graph-clause-graph c = IfOk-from_err _ _ c.from_residual-in_err-graph.ensures.0

pub returns-in_err-_outputs-clause-graph : goal.returns-in_err-_outputs-clause-graph
returns-in_err-_outputs-clause-graph c = IfOk-from_err _ _ c.from_residual-in_err-_outputs.ensures.0

pub returns-clause-graph : goal.returns-clause-graph
returns-clause-graph c =
    let draft = draft_in c.args.w.now in
    record {
      numbers = c.in_ok-graph.ensures.ok;
      fanins = c.in_ok-graph.ensures.defined;
      defined = nothing_undefined draft (signals_of draft) refl c.in_ok-graph.ensures.defined (rw c.deref-3.ensures.value at c.in_ok-_outputs.ensures.defined);
    }
