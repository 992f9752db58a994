use Rattle.std.proofs.Common.{◌≡◌, ◌∙◌, ◌++◌, ◌∷◌, [], ℕ, length, ap, sym, replicate, append_assoc, arith}
use Rattle.std.proofs.lemmas.List.{append-nil, replicate_more}
use Rattle.std.proofs.lemmas.Result.{IfOk-from_err}
use Rattle.lw_dag.proofs.levels.first_heights.Goals as goal

pub returns-in_err-heights : goal.returns-in_err-heights
returns-in_err-heights c = IfOk-from_err _ _ c.from_residual.ensures.0

pub returns-in_err-push : goal.returns-in_err-push
returns-in_err-push c = IfOk-from_err _ _ c.from_residual-in_err-push.ensures.0

pub returns-in_err-push-2 : goal.returns-in_err-push-2
returns-in_err-push-2 c = IfOk-from_err _ _ c.from_residual-in_err-push-2.ensures.0

pub ones-init : goal.ones-init
ones-init c = c.in_ok-heights.ensures.items

pub ones-preserved : goal.ones-preserved
ones-preserved c = c.in_ok-push.ensures.items ∙ (ap (λ l. l ++ 1 ∷ []) c.ones.invariant ∙ replicate_more c.ones._made 1)

pub zeros-init : goal.zeros-init
zeros-init c =
    let all : c.ones._made ≡ c.args.graph.now.inputs = omega (arith, c.ones-test.false, c.ones.auto._made-end) in
    c.ones.invariant ∙ (ap (λ (n : ℕ). replicate n 1) all ∙ sym (append-nil (replicate c.args.graph.now.inputs 1)))

pub zeros-preserved : goal.zeros-preserved
zeros-preserved c =
    let ones = replicate c.args.graph.now.inputs 1 in
    c.in_ok-push-2.ensures.items ∙ (ap (λ l. l ++ 0 ∷ []) c.zeros.invariant ∙ (append_assoc ones (replicate c.zeros._made 0) (0 ∷ []) ∙ ap (λ l. ones ++ l) (replicate_more c.zeros._made 0)))

pub returns : goal.returns
returns c =
    let all : c.zeros._made ≡ length c.args.graph.now.nodes.now = omega (arith, c.zeros-test.false, c.zeros.auto._made-end) in
    c.zeros.invariant ∙ ap (λ (n : ℕ). replicate c.args.graph.now.inputs 1 ++ replicate n 0) all
