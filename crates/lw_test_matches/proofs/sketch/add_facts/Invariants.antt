use Rattle.std.proofs.Common.{◌≡◌}
use Rattle.lw_test_matches.proofs.sketch.add_facts.Given as goal

abbrev pub invariant-loop-fact : goal.invariant-loop-fact
invariant-loop-fact l = l.draft.samples ≡ l.samples
