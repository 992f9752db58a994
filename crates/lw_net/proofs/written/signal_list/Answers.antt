use Rattle.std.proofs.Common.{◌∙◌, ◌++◌, ◌∷◌, [], ap, ap₂, append_assoc, get_or, map, sym, take, arith}
use Rattle.std.proofs.lemmas.List.{append-nil, map_more, take_all}
use Rattle.std.proofs.lemmas.Result.{IfOk-from_err}
use Rattle.lw_net.specs.Written.{number_of_out}
use Rattle.lw_net.proofs.written.signal_list.Goals as goal

pub returns-in_err-list : goal.returns-in_err-list
returns-in_err-list c = IfOk-from_err _ _ c.from_residual.ensures.0

pub returns-in_err-extend_from_slice : goal.returns-in_err-extend_from_slice
returns-in_err-extend_from_slice c = IfOk-from_err _ _ c.from_residual-in_err-extend_from_slice.ensures.0

pub loop-node-init : goal.loop-node-init
loop-node-init c = sym (append-nil c.extend_from_slice.new.self.items)

pub returns-in_err-push : goal.returns-in_err-push
returns-in_err-push c = IfOk-from_err _ _ c.from_residual-in_err-push.ensures.0

pub loop-node-preserved : goal.loop-node-preserved
loop-node-preserved c =
    let nodes = c.args.nodes.now in
    let i = c.loop-node.node-index in
    let node = c.node-item.result in
    let inputs = c.extend_from_slice.new.self.items in
    c.in_ok-push.ensures.items
    ∙ (ap₂ (λ l n. l ++ n ∷ []) c.loop-node.invariant (ap number_of_out c.node-item.is)
    ∙ (append_assoc inputs (map number_of_out (take i nodes)) (number_of_out (get_or nodes i node) ∷ [])
    ∙ ap (λ l. inputs ++ l) (sym (map_more number_of_out nodes i node c.loop-node-test.true))))

pub returns : goal.returns
returns c =
    let inputs = c.in_ok-extend_from_slice.ensures.items ∙ ap (λ l. l ++ c.args.inputs.now) c.in_ok-list.ensures.items in
    c.loop-node.invariant ∙ ap₂ (λ l ns. l ++ map number_of_out ns) inputs (take_all c.loop-node.node-index c.args.nodes.now (omega (arith, c.loop-node-test.false)))
