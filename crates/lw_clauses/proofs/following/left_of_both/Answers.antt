use Rattle.lw_clauses.proofs.Antecedents.{left_tells, both_holds}
use Rattle.lw_clauses.proofs.following.left_of_both.Goals as goal

pub returns-in-Some : goal.returns-in-Some
returns-in-Some c =
    left_tells _ _ _ _ (both_holds c.args.gates.now c.args.node c.of.result _ _ _ _ c.of.ensures c.in-Some.ensures c.flip.ensures c.flip-in-Some.ensures) c.left_of.ensures
