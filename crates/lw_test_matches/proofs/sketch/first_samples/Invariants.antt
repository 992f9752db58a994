use Rattle.std.proofs.Common.{◌≡◌, ◌∷◌, true, false, replicate}
use Rattle.lw_test_matches.proofs.sketch.first_samples.Given as goal

abbrev pub invariant-loop-input : goal.invariant-loop-input
invariant-loop-input l = l.samples.items ≡ true ∷ replicate l._input false
