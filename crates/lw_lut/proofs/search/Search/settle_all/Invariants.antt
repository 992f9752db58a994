use Rattle.std.proofs.Common.{◌≡◌, ◌≤◌, ℕ, length, slice_index}
use Rattle.lw_laws.specs.Graphs.{Graph}
use Rattle.lw_lut.specs.Reaches.{AreBoundedBut, AreKnownBut, AreReaches}
use Rattle.lw_lut.specs.Searches.{AreBounded, AreSettled, AreSettling}
use Rattle.lw_lut.proofs.search.Search.settle_all.Given as goal

abbrev pub invariant-loop-place : goal.invariant-loop-place
invariant-loop-place l = record {
  counts : length l.self.counts.items ≡ length l.initial.self.counts.items;
  pins : length l.self.pins.items ≡ length l.initial.self.pins.items;
  depths : length l.self.depths.items ≡ length l.initial.self.depths.items;
  lists : (g : Graph) → AreSettling g l.task.leaves l.depth l.initial.self → AreSettling g l.task.leaves l.depth l.self;
  settled : (g : Graph) → AreSettling g l.task.leaves l.depth l.initial.self → AreKnownBut l.task.leaves l.initial.self.counts.items l.initial.self.depths.items l.fn.swept → AreSettled l.task.leaves l.depth l.initial.self l.self l.place l.changed;
  within : l.place ≤ length l.initial.self.counts.items;
  few : (k : ℕ) → slice_index l.self.counts.items k ≤ l.task.leaves → slice_index l.initial.self.counts.items k ≤ l.task.leaves;
  bounded : (g : Graph) → AreReaches g l.task.reach.now → AreBounded g l.initial.self.counts.items → AreBoundedBut g l.self.counts.items l.next;
}
