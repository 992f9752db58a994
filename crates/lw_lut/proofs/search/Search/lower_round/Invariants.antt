use Rattle.std.proofs.Common.{◌≡◌, ◌<◌, ◌≤◌, ◌⊎◌, ℕ, length, slice_index}
use Rattle.lw_lut.specs.Reaches.{IsIn, IsOutside}
use Rattle.lw_lut.specs.Searches.{AreCounts, IsBoundedAt, total}
use Rattle.lw_lut.proofs.search.Search.lower_round.Given as goal

abbrev pub invariant-loop-class : goal.invariant-loop-class
invariant-loop-class l = record {
  counts : (d : ℕ) → AreCounts l.task.graph.now l.task.leaves d l.initial.self → AreCounts l.task.graph.now l.task.leaves d l.self;
  depths : l.self.depths ≡ l.initial.self.depths;
  bounded : (c : ℕ) → c < length l.task.graph.now.pairs → (IsIn l.next c → ⊥) → (c < l.class) ⊎ (IsIn l.fn.span c → ⊥) → IsBoundedAt l.task.graph.now l.self.counts.items c;
  elsewhere : (k : ℕ) → IsOutside l.fn.span k → slice_index l.self.counts.items k ≡ slice_index l.initial.self.counts.items k;
  fewer : total l.self.counts.items ≤ total l.initial.self.counts.items;
  falls : (c : ℕ) → IsIn l.next c → total l.self.counts.items < total l.initial.self.counts.items;
}
