use Rattle.lw_match.specs.Picks.{PicksOf}
use Rattle.lw_match.proofs.Picks.{IsAmong}
use Rattle.lw_match.proofs.choosing.pick_list.Given as goal

abbrev pub invariant-loop-number : goal.invariant-loop-number
invariant-loop-number g l =
    PicksOf g.C.Cost.costs l.query (IsAmong g.C.Cost.costs l.query l.pick.top l.list l.roots l.number) l.initial.best l.best
