use Rattle.lw_match.specs.Hunts.{HuntsOn}
use Rattle.lw_match.proofs.RootLists.{AreDone}
use Rattle.lw_match.proofs.sweeping.hunt_list.Given as goal

abbrev pub invariant-loop-number : goal.invariant-loop-number
invariant-loop-number g l = record {
  goes_on : HuntsOn g.C.Cost.costs l.query l.initial.hunt l.hunt;
  done : AreDone g.C.Cost.costs l.query l.list l.roots l.number l.hunt;
}
