use Rattle.std.proofs.Common.{◌∙◌, ◌++◌, ◌∷◌, [], ℕ, ap, ap₂, map, sym, arith}
use Rattle.std.proofs.lemmas.List.{map_more, take_all}
use Rattle.std.proofs.lemmas.Result.{IfOk-from_err}
use Rattle.lw_pool.specs.declared.id.NetId.{NetId}
use Rattle.lw_net.specs.Written.{net_placed}
use Rattle.lw_net.proofs.close.nets.Goals as goal

pub returns-in_err-nets : goal.returns-in_err-nets
returns-in_err-nets c = IfOk-from_err _ _ c.from_residual.ensures.0

pub loop-number-init : goal.loop-number-init
loop-number-init c = c.in_ok-nets.ensures.items

pub bounds-places-number : goal.bounds-places-number
bounds-places-number c = c.requires c.loop-number.number-index 0 c.loop-number-test.true

pub returns-in_err-push : goal.returns-in_err-push
returns-in_err-push c = IfOk-from_err _ _ c.from_residual-in_err-push.ensures.0

pub loop-number-preserved : goal.loop-number-preserved
loop-number-preserved c =
    c.in_ok-push.ensures.items
    ∙ (ap₂ (λ l (n : ℕ). let net : NetId = record { 0 = n } in l ++ net ∷ []) c.loop-number.invariant c.saturating_sub.ensures
    ∙ sym (map_more (net_placed c.args.places.now) c.args.list.now c.loop-number.number-index 0 c.loop-number-test.true))

pub returns : goal.returns
returns c = c.from_vec.ensures ∙ (c.loop-number.invariant ∙ ap (map (net_placed c.args.places.now)) (take_all c.loop-number.number-index c.args.list.now (omega (arith, c.loop-number-test.false))))
