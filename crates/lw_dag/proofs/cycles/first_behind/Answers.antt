use Rattle.std.proofs.Common.{below_more, sym, ◌∙◌, subst, arith}
use Rattle.std.proofs.lemmas.Bool.{false≢true}
use Rattle.std.proofs.lemmas.Result.{IfOk-from_err}
use Rattle.lw_dag.specs.Ranking.{AreRanks}
use Rattle.lw_dag.proofs.cycles.first_behind.Goals as goal

pub loop-p-preserved : goal.loop-p-preserved
loop-p-preserved c = below_more _ _ c.loop-p.invariant (λ path. false≢true (sym c.if-branch.false ∙ c.in_ok-is_on_cycle.ensures.1 path))

pub returns-in_err-last : goal.returns-in_err-last
returns-in_err-last c = IfOk-from_err _ _ c.from_residual.ensures.0

pub returns-in_err-ranks : goal.returns-in_err-ranks
returns-in_err-ranks c = IfOk-from_err _ _ c.from_residual-in_err-ranks.ensures.0

pub returns-in_err-is_on_cycle : goal.returns-in_err-is_on_cycle
returns-in_err-is_on_cycle c = IfOk-from_err _ _ c.from_residual-in_err-is_on_cycle.ensures.0

pub loop-p-init : goal.loop-p-init
loop-p-init c = λ j lt. absurd (omega (arith, lt))

pub is_on_cycle-requires-clause-ranks : goal.is_on_cycle-requires-clause-ranks
is_on_cycle-requires-clause-ranks c = subst (AreRanks c.args.of.now.graph.now.inputs c.args.of.now.graph.now.nodes.now) (sym c.deref.ensures.value) c.in_ok-ranks.ensures

pub is_on_cycle-requires-clause-within : goal.is_on_cycle-requires-clause-within
is_on_cycle-requires-clause-within c = omega (arith, c.loop-p-test.true, c.in_ok-last.ensures.within)

pub returns-then-branch : goal.returns-then-branch
returns-then-branch c = record {
  within = omega (arith, c.loop-p-test.true, c.in_ok-last.ensures.within);
  cycle = c.in_ok-is_on_cycle.ensures.0 c.if-branch.true;
  first = c.loop-p.invariant;
}

pub returns : goal.returns
returns c = record {
  within = c.in_ok-last.ensures.within;
  cycle = c.in_ok-last.ensures.cycle;
  first = λ j lt. c.loop-p.invariant j (omega (arith, c.loop-p-test.false, lt));
}
