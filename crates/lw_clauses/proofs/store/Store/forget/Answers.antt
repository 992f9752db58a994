use Rattle.std.proofs.Common.{All, Contains, sym, subst}
use Rattle.lw_facts.proofs.Lists.{at_contained}
use Rattle.lw_clauses.proofs.Storing.{all_taken}
use Rattle.lw_clauses.proofs.store.Store.forget.Goals as goal
use Rattle.lw_clauses.proofs.store.Store.forget.Goals.{in-Some+in_ok-push, in_default}

pub loop-number-preserved : goal.loop-number-preserved
loop-number-preserved c =
    elim c.match-get.branch [
      | in-Some+in_ok-push w ↦
          subst (All (Contains c.args.self.now)) (sym w.rest-is)
          (all_taken (Contains c.args.self.now) c.loop-number.rest _ _ w.in_ok-push.field-0 w.in_ok-push.ensures c.loop-number.invariant (at_contained c.args.self.now _ _ w.in-Some.ensures))
      | in_default w ↦ subst (All (Contains c.args.self.now)) (sym w.rest-is) c.loop-number.invariant
    ]
