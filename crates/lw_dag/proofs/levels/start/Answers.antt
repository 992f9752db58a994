use Rattle.std.proofs.lemmas.Result.{IfOk-from_err}
use Rattle.lw_dag.proofs.levels.start.Goals as goal

pub returns-in_err-heights : goal.returns-in_err-heights
returns-in_err-heights c = IfOk-from_err _ _ c.from_residual.ensures.0

pub returns-in_err-waiting : goal.returns-in_err-waiting
returns-in_err-waiting c = IfOk-from_err _ _ c.from_residual-in_err-waiting.ensures.0

pub returns-in_err-with_capacity : goal.returns-in_err-with_capacity
returns-in_err-with_capacity c = IfOk-from_err _ _ c.from_residual-in_err-with_capacity.ensures.0

pub returns : goal.returns
returns c = record {
  heights = c.in_ok-heights.ensures;
  order = c.in_ok-with_capacity.ensures.items;
  waiting = c.in_ok-waiting.ensures;
  ready = c.new.ensures.items;
}
