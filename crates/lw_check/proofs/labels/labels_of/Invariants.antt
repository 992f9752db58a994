use Rattle.std.proofs.Common.{◌≡◌, ◌<◌, ℕ, None, length, option_map, slice_index_or}
use Rattle.lw_genlib.specs.Tables.{millionths}
use Rattle.lw_laws.specs.Rounds.{labels_in}
use Rattle.lw_check.proofs.labels.labels_of.Given as goal

abbrev pub invariant-loop-class : goal.invariant-loop-class
invariant-loop-class l = record {
  count : length l.numbers.items ≡ l.class;
  labels : (c : ℕ) → c < l.class → labels_in l.numbers.items c ≡ option_map millionths (slice_index_or l.labels c None);
}
