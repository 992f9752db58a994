use Rattle.std.proofs.Common.{◌≡◌}
use Rattle.lw_test_matches.proofs.settling.stored_lines.Given as goal

abbrev pub invariant-loop-class : goal.invariant-loop-class
invariant-loop-class l = l.store.lists ≡ l.initial.store.lists
