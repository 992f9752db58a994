use Rattle.lw_joint.proofs.Columns.{disjunction}
use Rattle.lw_joint.proofs.rows.or.Goals as goal

pub returns-in-Some-clause-literal : goal.returns-in-Some-clause-literal
returns-in-Some-clause-literal c =
    let is = rw c.in-Some.is at c.in_ok-literal.ensures.conjunction in
    disjunction c.and.new.self c.args.left c.args.right c.flip.result c.flip-2.result c.in-Some.literal c.flip-in-Some.result c.flip.ensures c.flip-2.ensures c.flip-in-Some.ensures is
