use Rattle.std.proofs.Common.{◌<◌, ◌↔◌, [], Contains}
use Rattle.std.specs.Prelude.{slice_index_or}
use Rattle.lw_graph.specs.Rows.{rows_from}
use Rattle.lw_graph.specs.declared.index.Entry.{Entry}
use Rattle.lw_graph.proofs.index.fill.Given as goal

abbrev pub invariant-loop-class : goal.invariant-loop-class
invariant-loop-class l =
    (e : Entry) → Contains l.entries.items e ↔ ((e.class.0 < l.class) × Contains (slice_index_or (rows_from l.parts.pairs.now.items 0 l.parts.ends.now) e.class.0 []) e.pair)
