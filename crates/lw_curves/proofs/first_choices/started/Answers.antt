use Rattle.std.proofs.Common.{◌≡◌, ◌∙◌, length, arith}
use Rattle.lw_choices.specs.Tasks.{task}
use Rattle.lw_choices.specs.Stands.{plain_row}
use Rattle.lw_queue.proofs.Queueing.{none_waits}
use Rattle.lw_curves.proofs.Starts.{started_next, started_all}
use Rattle.lw_curves.proofs.first_choices.started.Goals as goal

pub loop-number-init : goal.loop-number-init
loop-number-init c = record {
  horizon = c.in_ok-queue.ensures.horizon;
  started = record {
    waiting = λ t m w. absurd (none_waits c.in_ok-queue.queue c.in_ok-queue.ensures.items t m w);
    given = λ s m t a x lt e xt gives le. absurd (omega (arith, lt));
  };
}

pub loop-number-preserved : goal.loop-number-preserved
loop-number-preserved c =
    record {
      horizon = c.in_ok-push_start.ensures.horizon ∙ c.loop-number.invariant.horizon;
      started = started_next c.args.starts.now c.args.rows.now c.loop-number.number (plain_row c.at.result) c.loop-number.queue c.push_start.new.queue c.at.ensures.choice c.in_ok-push_start.ensures.horizon c.in_ok-push_start.ensures c.loop-number.invariant.started;
    }

pub returns : goal.returns
returns c = record {
  horizon_is = c.loop-number.invariant.horizon;
  first = λ g pats cells are.
      let n : c.loop-number.number ≡ length c.args.rows.now = omega (arith, c.loop-number-test.false, c.loop-number.auto.number-end, c.len-number-end.ensures) in
      started_all (task g pats cells c.args.starts.now) c.args.rows.now c.loop-number.number c.loop-number.queue n c.loop-number.invariant.started are;
}
