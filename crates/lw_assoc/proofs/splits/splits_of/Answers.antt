use Rattle.std.proofs.Common.{arith}
use Rattle.lw_assoc.proofs.Counts.{power_few}
use Rattle.lw_assoc.proofs.splits.splits_of.Goals as goal

pub overflow_sub-result-in-Idempotent : goal.overflow_sub-result-in-Idempotent
overflow_sub-result-in-Idempotent c =
    let (high, low) = power_few c.args.count c.requires.some c.requires.few in
    let e = c.threes.ensures in
    omega arith

pub returns-in-Idempotent-clause-few : goal.returns-in-Idempotent-clause-few
returns-in-Idempotent-clause-few c =
    let (high, low) = power_few c.args.count c.requires.some c.requires.few in
    let e = c.threes.ensures in
    omega arith
