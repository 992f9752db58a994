use Rattle.lw_clauses.proofs.Antecedents.{left_tells, zero_holds}
use Rattle.lw_clauses.proofs.following.left_of_zero.Goals as goal

pub returns : goal.returns
returns c =
    left_tells _ _ _ _ (zero_holds c.args.gates.now c.args.node c.of.result c.flip.result c.of.ensures c.flip.ensures (c.is_zero.ensures c.if-not-is_zero.false)) c.left_of.ensures
