use Rattle.std.proofs.Common.{ℕ, ◌*◌, ◌+◌, ◌<◌, ◌≡◌, length, None}
use Rattle.lw_settle.specs.Queues.{AreWonBut, IsLeafOf, mark_of, node}
use Rattle.lw_settle.proofs.queue.Queue.new.Given as goal

abbrev pub invariant-loop-class : goal.invariant-loop-class
invariant-loop-class l = record {
  long : length l.tree.items ≡ 2 * l.classes;
  won : AreWonBut l.classes l.tree.items 0;
  none : (c : ℕ) → c < l.classes → mark_of (node l.tree.items (l.classes + c)) ≡ None;
  leaves : (c : ℕ) → c < l.class → IsLeafOf (node l.tree.items (l.classes + c)) c;
}
