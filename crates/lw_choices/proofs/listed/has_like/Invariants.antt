use Rattle.std.proofs.Common.{ℕ}
use Rattle.lw_choices.specs.Chains.{IsLast}
use Rattle.lw_choices.proofs.Linking.{place_measure}
use Rattle.lw_choices.proofs.listed.has_like.Given as goal

abbrev pub invariant-loop-next : goal.invariant-loop-next
invariant-loop-next l = (c bound : ℕ) × IsLast l.chains.classes c bound l.next

abbrev pub decreases-loop-next : goal.decreases-loop-next
decreases-loop-next l = place_measure l.next
