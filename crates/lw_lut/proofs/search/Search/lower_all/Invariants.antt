use Rattle.std.proofs.Common.{◌≡◌, ◌+◌, ◌*◌, ◌-◌, min, ℕ, slice_index}
use Rattle.lw_lut.specs.Reaches.{AreBoundedBut, IsOutside, IsWithin}
use Rattle.lw_lut.specs.Searches.{AreCounts, total}
use Rattle.lw_lut.proofs.search.Search.lower_all.Given as goal

abbrev pub invariant-loop-span : goal.invariant-loop-span
invariant-loop-span l = record {
  counts : (d : ℕ) → AreCounts l.task.graph.now l.task.leaves d l.initial.self → AreCounts l.task.graph.now l.task.leaves d l.self;
  depths : l.self.depths ≡ l.initial.self.depths;
  within : IsWithin l.fn.span l.swept;
  now : IsWithin l.span l.swept;
  elsewhere : (k : ℕ) → IsOutside l.swept k → slice_index l.self.counts.items k ≡ slice_index l.initial.self.counts.items k;
  bounded : AreBoundedBut l.task.graph.now l.self.counts.items l.span;
}

abbrev pub decreases-loop-span : goal.decreases-loop-span
decreases-loop-span l = 2 * total l.self.counts.items + min 1 (l.span.high - l.span.low)
