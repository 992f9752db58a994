use Rattle.std.proofs.Common.{subst}
use Rattle.std.specs.List.Sorted.{IsPermutation, IsStrictlyIncreasing}
use Rattle.lw_reduce.proofs.SettledReps.{distinct_operands}
use Rattle.lw_reduce.proofs.distinct_operands.have_distinct_operands.Goals as goal

pub returns : goal.returns
returns c = λ own.
    let sorted = c.sort_unstable.new.self.items in
    let perm = subst (λ ks. IsPermutation ks sorted) c.in_ok-keys.ensures c.sort_unstable.ensures.permutation in
    distinct_operands c.args.facts.now.reps.now c.args.facts.now.nands.now sorted perm (subst IsStrictlyIncreasing c.deref.ensures.value (c.are_increasing.ensures own))
