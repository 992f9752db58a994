use Rattle.std.proofs.Common.{◌≡◌}
use Rattle.lw_curves.proofs.Starts.{AreStarted}
use Rattle.lw_curves.proofs.first_choices.started.Given as goal

abbrev pub invariant-loop-number : goal.invariant-loop-number
invariant-loop-number l = record {
  horizon : l.queue.horizon ≡ l.horizon;
  started : AreStarted l.starts l.rows l.number l.queue;
}
