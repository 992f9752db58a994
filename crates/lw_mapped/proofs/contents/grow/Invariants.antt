use Rattle.std.proofs.Common.{◌≡◌, ◌≤◌, ◌-◌, ℕ, None, max, length}
use Rattle.std.specs.Prelude.{slice_index_or}
use Rattle.lw_mapped.proofs.contents.grow.Given as goal

abbrev pub invariant-loop-labels : goal.invariant-loop-labels
invariant-loop-labels l = record {
  same : (c : ℕ) → slice_index_or l.labels.items c None ≡ slice_index_or l.initial.labels.items c None;
  grown : length l.initial.labels.items ≤ length l.labels.items;
  within : length l.labels.items ≤ max (length l.initial.labels.items) l.count;
}

abbrev pub decreases-loop-labels : goal.decreases-loop-labels
decreases-loop-labels l = l.count - length l.labels.items
