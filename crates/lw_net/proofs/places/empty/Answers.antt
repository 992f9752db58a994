use Rattle.std.proofs.Common.{◌≡◌, ◌∙◌, ◌++◌, ◌∷◌, [], ℕ, ap, replicate, arith}
use Rattle.std.proofs.lemmas.List.{replicate_more}
use Rattle.std.proofs.lemmas.Result.{IfOk-from_err}
use Rattle.lw_net.proofs.places.empty.Goals as goal

pub returns-in_err-places : goal.returns-in_err-places
returns-in_err-places c = IfOk-from_err _ _ c.from_residual.ensures.0

pub loop-made-init : goal.loop-made-init
loop-made-init c = c.in_ok-places.ensures.items

pub returns-in_err-push : goal.returns-in_err-push
returns-in_err-push c = IfOk-from_err _ _ c.from_residual-in_err-push.ensures.0

pub loop-made-preserved : goal.loop-made-preserved
loop-made-preserved c = c.in_ok-push.ensures.items ∙ (ap (λ l. l ++ 0 ∷ []) c.loop-made.invariant ∙ replicate_more c.loop-made._made 0)

pub returns : goal.returns
returns c =
    let all : c.loop-made._made ≡ c.args.count = omega (arith, c.loop-made-test.false, c.loop-made.auto._made-end) in
    c.loop-made.invariant ∙ ap (λ (n : ℕ). replicate n 0) all
