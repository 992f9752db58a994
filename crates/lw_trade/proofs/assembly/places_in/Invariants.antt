use Rattle.std.proofs.Common.{◌≡◌, ◌<◌, ℕ, length, slice_index_or}
use Rattle.lw_trade.proofs.assembly.places_in.Given as goal

abbrev pub invariant-loop-place : goal.invariant-loop-place
invariant-loop-place l = record {
  one_each : length l.places.items ≡ length l.order;
  low : (i : ℕ) → i < length l.order → slice_index_or l.places.items i 0 < length l.order;
  at : (k : ℕ) → k < l.place → slice_index_or l.places.items (slice_index_or l.order k 0) 0 ≡ k;
}
