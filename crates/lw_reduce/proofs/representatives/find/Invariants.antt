use Rattle.std.proofs.Common.{length}
use Rattle.lw_reduce.specs.Representatives.{IsOnPath}
use Rattle.lw_reduce.proofs.representatives.find.Given as goal

abbrev pub invariant-path : goal.invariant-path
invariant-path l = IsOnPath (length l.fn.reps) l.facts.nands.now l.facts.links.now l.fn.reps l.reps l.form l.at

abbrev pub decreases-path : goal.decreases-path
decreases-path l = l.at
