use Rattle.std.proofs.Common.{◌≡◌}
use Rattle.lw_test_matches.proofs.sketch.add_links.Given as goal

abbrev pub invariant-loop-link : goal.invariant-loop-link
invariant-loop-link l = l.draft.samples ≡ l.samples
