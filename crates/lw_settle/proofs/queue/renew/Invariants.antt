use Rattle.std.proofs.Common.{◌<◌, ◌≡◌, drop}
use Rattle.lw_settle.specs.Queues.{AreWonBut}
use Rattle.lw_settle.proofs.queue.renew.Given as goal

abbrev pub invariant-loop-at : goal.invariant-loop-at
invariant-loop-at l = record {
  below : l.at < l.fn.classes;
  won : AreWonBut l.fn.classes l.tree l.at;
  leaves : drop l.fn.classes l.tree ≡ drop l.fn.classes l.initial.tree;
}

abbrev pub decreases-loop-at : goal.decreases-loop-at
decreases-loop-at l = l.at
