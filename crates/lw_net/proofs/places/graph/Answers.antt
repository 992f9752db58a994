use Rattle.std.proofs.Common.{◌<◌, ◌∙◌, All, ap, length, refl, subst, sym, arith}
use Rattle.std.proofs.lemmas.List.{drop_all, length-map, take_all}
use Rattle.std.proofs.lemmas.Result.{IfOk-from_err, err_from_is_err_and}
use Rattle.std.specs.List.{flat_map}
use Rattle.lw_net.specs.Closing.{signals_of, fanins_of, undefined_in}
use Rattle.lw_net.specs.Numbered.{TellsUndefined, numbered}
use Rattle.lw_net.specs.Numbers.{draft_in}
use Rattle.lw_net.specs.Written.{named_node, named_nodes, IsWithin}
use Rattle.lw_net.proofs.Names.{undefined_in_node, undefined_behind_node, numbered_more}
use Rattle.lw_net.proofs.Writing.{named_here}
use Rattle.lw_net.proofs.places.graph.Goals as goal

pub returns-in_err-fanins-clause-fault : goal.returns-in_err-fanins-clause-fault
returns-in_err-fanins-clause-fault c =
    let w = c.args.w.now in
    let keys = w.names.keys in
    let nodes = c.as_slice-nodes.result.now in
    let i = c.loop-node.node-index in
    let signals = signals_of (draft_in w) in
    let named = named_nodes keys nodes in
    let below : i < length named = omega (arith, c.loop-node-test.true, length-map nodes (named_node keys)) in
    let p = err_from_is_err_and c.from_residual.result c.from_residual.ensures.1 in
    rw (p.1, p.2) (subst (λ ns. TellsUndefined signals (flat_map fanins_of (named_nodes keys ns)) c.in_err-fanins.field-0.0) c.as_slice-nodes.ensures.value
    (undefined_in_node signals named i (named_node keys c.node-item.result) c.in_err-fanins.field-0.0 below (named_here keys nodes i c.node-item.result c.loop-node-test.true c.node-item.is) c.loop-node.invariant.rest (rw c.as_slice.ensures at c.in_err-fanins.ensures.fault)))

pub loop-node-preserved : goal.loop-node-preserved
loop-node-preserved c =
    let w = c.args.w.now in
    let keys = w.names.keys in
    let nodes = c.as_slice-nodes.result.now in
    let i = c.loop-node.node-index in
    let signals = signals_of (draft_in w) in
    let named = named_nodes keys nodes in
    let node = named_node keys c.node-item.result in
    let below : i < length named = omega (arith, c.loop-node-test.true, length-map nodes (named_node keys)) in
    let here = named_here keys nodes i c.node-item.result c.loop-node-test.true c.node-item.is in
    record {
      so_far = numbered_more signals named c.loop-node.graph.items c.push.new.self.items i node c.in_ok-fanins.fanins below here c.loop-node.invariant.so_far (rw c.as_slice.ensures at c.in_ok-fanins.ensures.ok) c.in-Ok-push.ensures.items;
      rest = undefined_behind_node signals named i node below here c.loop-node.invariant.rest (rw c.as_slice.ensures at c.in_ok-fanins.ensures.defined);
    }

pub returns-in_default : goal.returns-in_default
returns-in_default c = record { ok = tt; defined = tt; fault = tt }

pub loop-node-init : goal.loop-node-init
loop-node-init c = record { so_far = c.in-Ok.ensures.items; rest = refl }

pub row-requires-clause-table : goal.row-requires-clause-table
row-requires-clause-table c = c.requires

pub row-requires-clause-within : goal.row-requires-clause-within
row-requires-clause-within c =
    let w = c.args.w.now in
    let count = length w.names.keys in
    let all = subst (All (IsWithin count)) (sym c.as_slice-nodes.ensures.value) c.requires.kept.nodes in
    let node = subst (IsWithin count) (sym c.node-item.is) (all c.loop-node.node-index c.node-item.result c.loop-node-test.true) in
    subst (All (λ n. n < count)) (sym c.as_slice.ensures) node.fanins

pub returns-in_default-push : goal.returns-in_default-push
returns-in_default-push c = record { ok = tt; defined = tt; fault = tt }

pub returns-clause-ok : goal.returns-clause-ok
returns-clause-ok c =
    let w = c.args.w.now in
    let keys = w.names.keys in
    let named = named_nodes keys c.as_slice-nodes.result.now in
    let all = take_all c.loop-node.node-index named (omega (arith, c.loop-node-test.false, length-map c.as_slice-nodes.result.now (named_node keys))) in
    c.loop-node.invariant.so_far ∙ ap (numbered (signals_of (draft_in w))) (all ∙ ap (named_nodes keys) c.as_slice-nodes.ensures.value)

pub returns-clause-defined : goal.returns-clause-defined
returns-clause-defined c =
    let w = c.args.w.now in
    let keys = w.names.keys in
    let signals = signals_of (draft_in w) in
    let named = named_nodes keys c.as_slice-nodes.result.now in
    let none = drop_all c.loop-node.node-index named (omega (arith, c.loop-node-test.false, length-map c.as_slice-nodes.result.now (named_node keys))) in
    ap (λ ns. undefined_in signals (flat_map fanins_of (named_nodes keys ns))) (sym c.as_slice-nodes.ensures.value)
    ∙ (sym c.loop-node.invariant.rest ∙ ap (λ ns. undefined_in signals (flat_map fanins_of ns)) none)

pub returns-in_err-fanins-clause-ok : goal.returns-in_err-fanins-clause-ok
returns-in_err-fanins-clause-ok c = IfOk-from_err _ _ c.from_residual.ensures.0

pub returns-in_err-fanins-clause-defined : goal.returns-in_err-fanins-clause-defined
returns-in_err-fanins-clause-defined c = IfOk-from_err _ _ c.from_residual.ensures.0
