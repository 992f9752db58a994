use Rattle.lw_facts.proofs.Lists.{all_at}
use Rattle.lw_clauses.specs.Clauses.{Holds}
use Rattle.lw_clauses.proofs.Antecedents.{left_tells}
use Rattle.lw_clauses.proofs.following.left_of_clause.Goals as goal

pub returns-in-Some : goal.returns-in-Some
returns-in-Some c =
    left_tells _ _ _ _ (all_at (Holds c.args.gates.now) c.args.store.now c.args.number _ c.requires c.in-Some.ensures) c.left_of.ensures
