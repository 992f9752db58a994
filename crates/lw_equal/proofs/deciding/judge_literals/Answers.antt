use Rattle.std.proofs.Common.{subst}
use Rattle.lw_aig.specs.Aigs.{IsAig}
use Rattle.lw_equal.specs.Cases.{one_of, other_of}
use Rattle.lw_equal.proofs.Laying.{one_value}
use Rattle.lw_equal.proofs.deciding.judge_literals.Goals as goal

pub returns-in-Equal-clause-judged : goal.returns-in-Equal-clause-judged
returns-in-Equal-clause-judged c =
    let gates = c.args.sweep.now in
    let case = c.args.case.now in
    let pair = c.args.pair.now in
    let equal = rw c.in-Equal.is at c.in_ok-decide.ensures.told in
    one_value gates (one_of case) (other_of case) case.left.now case.right.now pair.left.0 pair.right.0 c.args.left c.args.right (subst IsAig c.aig.ensures c.gates.ensures.kept) c.requires.case.begins
    c.requires.case.left c.requires.case.right c.requires.left c.requires.right equal
