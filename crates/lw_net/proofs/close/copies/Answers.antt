use Rattle.std.proofs.Common.{◌∙◌, ◌++◌, ◌∷◌, [], ap, ap₂, sym, arith}
use Rattle.std.proofs.lemmas.List.{map_more, take_all}
use Rattle.std.proofs.lemmas.Result.{IfOk-from_err}
use Rattle.lw_net.specs.Written.{name_at, names_in}
use Rattle.lw_net.proofs.close.copies.Goals as goal

pub returns-in_err-copies : goal.returns-in_err-copies
returns-in_err-copies c = IfOk-from_err _ _ c.from_residual.ensures.0

pub loop-number-init : goal.loop-number-init
loop-number-init c = c.in_ok-copies.ensures.items

pub copy_of-requires : goal.copy_of-requires
copy_of-requires c = c.requires c.loop-number.number-index 0 c.loop-number-test.true

pub returns-in_err-copy_of : goal.returns-in_err-copy_of
returns-in_err-copy_of c = IfOk-from_err _ _ c.from_residual-in_err-copy_of.ensures.0

pub returns-in_err-push : goal.returns-in_err-push
returns-in_err-push c = IfOk-from_err _ _ c.from_residual-in_err-push.ensures.0

pub loop-number-preserved : goal.loop-number-preserved
loop-number-preserved c =
    c.in_ok-push.ensures.items
    ∙ (ap₂ (λ l name. l ++ name ∷ []) c.loop-number.invariant c.in_ok-copy_of.ensures
    ∙ sym (map_more (name_at c.args.names.now.keys) c.args.list.now c.loop-number.number-index 0 c.loop-number-test.true))

pub returns : goal.returns
returns c = c.loop-number.invariant ∙ ap (names_in c.args.names.now.keys) (take_all c.loop-number.number-index c.args.list.now (omega (arith, c.loop-number-test.false)))
