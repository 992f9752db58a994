use Rattle.lw_clauses.proofs.Antecedents.{left_tells, second_holds}
use Rattle.lw_clauses.proofs.following.left_of_second.Goals as goal

pub returns-in-Some : goal.returns-in-Some
returns-in-Some c =
    left_tells _ _ _ _ (second_holds c.args.gates.now c.args.node c.of.result c.flip.result c.of.ensures c.flip.ensures _ _ c.in-Some.ensures) c.left_of.ensures
