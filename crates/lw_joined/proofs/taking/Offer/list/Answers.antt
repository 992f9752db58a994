use Rattle.lw_joined.proofs.LeftOut.{lists_union}
use Rattle.lw_joined.proofs.taking.Offer.list.Goals as goal

pub returns-in-Some : goal.returns-in-Some
returns-in-Some c = lists_union c.args.self.now c.args.taken.now c.in-Some.union c.forms_of.result (rw c.in-Some.is at c.in_ok-union.ensures) c.forms_of.ensures
