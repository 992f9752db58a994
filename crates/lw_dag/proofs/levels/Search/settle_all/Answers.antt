use Rattle.std.proofs.Common.{arith, subst}
use Rattle.std.proofs.lemmas.List.{drop_all}
use Rattle.std.proofs.lemmas.Result.{IfOk-from_err}
use Rattle.lw_dag.specs.Rising.{HasSettled}
use Rattle.lw_dag.proofs.levels.Search.settle_all.Goals as goal

pub loop-at-init : goal.loop-at-init
loop-at-init c = record { levelling = c.requires.before; less = omega arith }

pub settle-requires-clause-before : goal.settle-requires-clause-before
settle-requires-clause-before c = c.loop-at.invariant.levelling

pub returns-in_err-settle : goal.returns-in_err-settle
returns-in_err-settle c = IfOk-from_err _ _ c.from_residual.ensures.0

pub loop-at-preserved : goal.loop-at-preserved
loop-at-preserved c = record {
  levelling = c.in_ok-settle.ensures.levelling;
  less = omega (arith, c.in_ok-settle.ensures.less, c.loop-at.invariant.less);
}

pub returns : goal.returns
returns c =
    subst (λ later. HasSettled c.args.graph.now later c.args.self.now c.loop-at.self) (drop_all c.loop-at.at c.args.list.now (omega (arith, c.loop-at-test.false))) c.loop-at.invariant
