use Rattle.std.proofs.Common.{◌≡◌, ◌<◌, ◌≤◌, ℕ}
use Rattle.std.specs.Prelude.{slice_index}
use Rattle.lw_report.specs.Marking.{marked}
use Rattle.lw_report.proofs.block.set_bits.Given as goal

abbrev pub invariant-loop-i : goal.invariant-loop-i
invariant-loop-i l = record {
  set : (m : ℕ) → m < l.i → slice_index l.words m ≡ marked l.k (slice_index l.initial.words m) (slice_index l.digits m);
  left : (m : ℕ) → l.i ≤ m → slice_index l.words m ≡ slice_index l.initial.words m;
}
