use Rattle.std.proofs.Common.{◌≡◌}
use Rattle.std.specs.List.{list_any, slice_range}
use Rattle.lw_mapped.specs.GateLines.{is_for}
use Rattle.lw_mapped.proofs.ties.gives.Given as goal

abbrev pub invariant-loop-place : goal.invariant-loop-place
invariant-loop-place l = list_any (is_for l.formal) (slice_range l.words l.place l.end) ≡ list_any (is_for l.formal) (slice_range l.words 2 l.end)
