use Rattle.std.proofs.Common.{ℕ, ◌≡◌, length, Some, slice_get}
use Rattle.lw_curves.specs.declared.tallies.Tally.{Tally}
use Rattle.lw_choices.specs.Choices.{Choice}
use Rattle.lw_curves.specs.Tallies.{IsFirstTally}
use Rattle.lw_curves.proofs.tallies.first_tallies.Given as goal

abbrev pub invariant-loop-number : goal.invariant-loop-number
invariant-loop-number l = record {
  count : length l.tallies.items ≡ l.number;
  each : (n : ℕ) (x : Choice) (t : Tally) → slice_get l.rows n ≡ Some x → slice_get l.tallies.items n ≡ Some t → IsFirstTally l.lib x t;
}
