use Rattle.std.proofs.Common.{subst, sym}
use Rattle.lw_clauses.specs.Clauses.{Holds}
use Rattle.lw_search.proofs.Refuting.{refuted_by}
use Rattle.lw_search.proofs.querying.refutes.Goals as goal

pub returns-clause-never : goal.returns-clause-never
returns-clause-never c =
    let holds = rw c.in-Some.is at c.in_ok-learn.ensures.holds in
    λ yes. refuted_by c.args.clauses.now c.args.roots.now _ (c.are_complements.ensures c.if-not-are_complements.false) (subst (Holds c.args.clauses.now) (sym c.deref.ensures.value) holds)
