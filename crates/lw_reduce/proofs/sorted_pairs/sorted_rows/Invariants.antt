use Rattle.std.proofs.Common.{ℕ, ◌≡◌, ◌<◌, ◌≤◌, [], length}
use Rattle.std.specs.Prelude.{slice_index_or}
use Rattle.lw_graph.specs.Rows.{AreEnds, rows_from, start_at}
use Rattle.lw_reduce.specs.Rows.{IsRowOf}
use Rattle.lw_reduce.proofs.sorted_pairs.sorted_rows.Given as goal

abbrev pub invariant-loop-class : goal.invariant-loop-class
invariant-loop-class l = record {
  cut : AreEnds (length l.rows.pairs.items) 0 l.rows.ends;
  count : length (rows_from l.rows.pairs.items 0 l.rows.ends) ≡ l.class;
  size : length l.rows.pairs.items ≤ start_at 0 l.fn.ends l.class;
  done : (c : ℕ) → c < l.class → IsRowOf (slice_index_or (rows_from l.fn.pairs 0 l.fn.ends) c []) (slice_index_or (rows_from l.rows.pairs.items 0 l.rows.ends) c []);
}
