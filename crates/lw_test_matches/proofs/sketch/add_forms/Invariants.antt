use Rattle.std.proofs.Common.{◌≡◌}
use Rattle.lw_test_matches.proofs.sketch.add_forms.Given as goal

abbrev pub invariant-loop-sample : goal.invariant-loop-sample
invariant-loop-sample l = l.draft.samples ≡ l.samples.items
