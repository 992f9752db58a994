use Rattle.std.proofs.Common.{◌≡◌, ◌<◌, ℕ, Some, None, slice_get, slice_index_or}
use Rattle.lw_pool.specs.declared.id.ClassId.{ClassId}
use Rattle.lw_cost.specs.declared.mark.Mark.{Mark}
use Rattle.lw_extract.proofs.extracting.first_uncovered.Given as goal

abbrev pub invariant-loop-k : goal.invariant-loop-k
invariant-loop-k l = (i : ℕ) (c : ClassId) → i < l.k → slice_get l.roots i ≡ Some c → (m : Mark) × (slice_index_or l.marks c.0 None ≡ Some m)
