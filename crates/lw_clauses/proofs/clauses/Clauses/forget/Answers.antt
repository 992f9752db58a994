use Rattle.lw_clauses.specs.Clauses.{Holds}
use Rattle.lw_clauses.proofs.Storing.{all_kept}
use Rattle.lw_clauses.proofs.clauses.Clauses.forget.Goals as goal

pub invariant_of-self-2 : goal.invariant_of-self-2
invariant_of-self-2 c = all_kept (Holds c.self.inside.aig) c.self.inside.store c.forget.new.self c.in_ok-forget.ensures c.self.invariant
