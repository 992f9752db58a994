use Rattle.std.proofs.Common.{◌++◌, ◌∷◌, [], map, take, sym, ap, ap₂, ◌∙◌, append_assoc}
use Rattle.std.proofs.lemmas.List.{append-nil, take_more}
use Rattle.std.proofs.lemmas.Result.{IfOk-from_err}
use Rattle.lw_net.specs.Closing.{out_of}
use Rattle.lw_net.proofs.Writing.{take_get}
use Rattle.lw_net.proofs.naming.signals.Goals as goal

pub loop-j-preserved : goal.loop-j-preserved
loop-j-preserved c =
    let outs = map out_of c.args.nodes.now in
    let before = c.loop-name.names.items in
    let name = c.out.result.now in
    c.in_ok-push-2.ensures.items
    ∙ (ap₂ (λ l n. l ++ n ∷ []) c.loop-j.invariant (c.in_ok-from_slice-2.ensures ∙ c.as_bytes-in-loop-j.ensures.bytes)
    ∙ (append_assoc before (take c.loop-j.j outs) (name ∷ [])
    ∙ ap (λ l. before ++ l) (sym (take_get outs c.loop-j.j name c.out.ensures))))

pub returns-in_err-names : goal.returns-in_err-names
returns-in_err-names c = IfOk-from_err _ _ c.from_residual.ensures.0

pub returns-in_err-from_slice : goal.returns-in_err-from_slice
returns-in_err-from_slice c = IfOk-from_err _ _ c.from_residual-in_err-from_slice.ensures.0

pub returns-in_err-push : goal.returns-in_err-push
returns-in_err-push c = IfOk-from_err _ _ c.from_residual-in_err-push.ensures.0

pub loop-name-init : goal.loop-name-init
loop-name-init c = c.in_ok-names.ensures.items

pub loop-name-preserved : goal.loop-name-preserved
loop-name-preserved c =
    c.in_ok-push.ensures.items
    ∙ (ap₂ (λ l n. l ++ n ∷ []) c.loop-name.invariant (c.in_ok-from_slice.ensures ∙ (c.as_bytes.ensures.bytes ∙ c.name-item.is))
    ∙ sym (take_more c.args.inputs.now c.loop-name.name-index c.name-item.result c.loop-name-test.true))

pub loop-j-init : goal.loop-j-init
loop-j-init c = sym (append-nil c.loop-name.names.items)

pub returns-in_err-from_slice-2 : goal.returns-in_err-from_slice-2
returns-in_err-from_slice-2 c = IfOk-from_err _ _ c.from_residual-in_err-from_slice-2.ensures.0

pub returns-in_err-push-2 : goal.returns-in_err-push-2
returns-in_err-push-2 c = IfOk-from_err _ _ c.from_residual-in_err-push-2.ensures.0
