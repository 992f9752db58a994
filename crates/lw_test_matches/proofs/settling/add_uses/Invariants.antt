use Rattle.std.proofs.Common.{◌≡◌}
use Rattle.lw_test_matches.proofs.settling.add_uses.Given as goal

abbrev pub invariant-loop-n : goal.invariant-loop-n
invariant-loop-n l = l.store.lists ≡ l.initial.store.lists
