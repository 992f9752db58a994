use Rattle.std.proofs.Common.{◌≡◌, arith, length, subst, vec_len}
use Rattle.std.proofs.lemmas.Result.{IfOk-from_err}
use Rattle.lw_dag.specs.Ranking.{IsWalk}
use Rattle.lw_dag.proofs.turning.walk_from.Goals as goal

pub enter-requires-clause-walk : goal.enter-requires-clause-walk
enter-requires-clause-walk c =
    let flags : length c.args.rows.now ≡ vec_len c.args.walk.now.seen = omega (arith, c.args.walk.now.seen.ok.0, c.requires.walk.flags) in
    subst (λ n. IsWalk n c.args.walk.now) flags c.requires.walk

pub enter-requires-clause-node : goal.enter-requires-clause-node
enter-requires-clause-node c = omega (arith, c.args.walk.now.seen.ok.0, c.requires.walk.flags, c.requires.start)

pub returns-in_err-enter : goal.returns-in_err-enter
returns-in_err-enter c = record { walk = IfOk-from_err _ _ c.from_residual.ensures.0 }

pub loop-init : goal.loop-init
loop-init c =
    let flags : vec_len c.enter.new.walk.seen ≡ length c.args.rows.now = omega (arith, c.enter.ensures.len, c.args.walk.now.seen.ok.0, c.requires.walk.flags) in
    subst (λ n. IsWalk n c.enter.new.walk) flags c.in_ok-enter.ensures.walk

pub step-requires-clause-walk : goal.step-requires-clause-walk
step-requires-clause-walk c = c.loop.invariant

pub step-requires-clause-rows : goal.step-requires-clause-rows
step-requires-clause-rows c = c.requires.rows

pub returns-in_err-step : goal.returns-in_err-step
returns-in_err-step c = record { walk = IfOk-from_err _ _ c.from_residual-in_err-step.ensures.0 }

pub loop-preserved : goal.loop-preserved
loop-preserved c = c.in_ok-step.ensures.walk

pub returns-after-loop : goal.returns-after-loop
returns-after-loop c = record { walk = c.loop.invariant }

pub returns-then-not-branch : goal.returns-then-not-branch
returns-then-not-branch c = record { walk = c.in_ok-step.ensures.walk }
