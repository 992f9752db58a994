use Rattle.std.proofs.Common.{ℕ, ◌<◌, [], Contains}
use Rattle.std.specs.Prelude.{slice_index_or}
use Rattle.lw_graph.specs.Rows.{rows_from}
use Rattle.lw_graph.proofs.index.sought.Given as goal

abbrev pub invariant-loop-class : goal.invariant-loop-class
invariant-loop-class l =
    (c : ℕ) → c < l.class → Contains (slice_index_or (rows_from l.parts.pairs.now.items 0 l.parts.ends.now) c []) l.pair → ⊥
