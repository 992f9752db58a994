use Rattle.lw_match.specs.Hunts.{HuntsOn}
use Rattle.lw_match.proofs.RootLists.{HasNoneBelow}
use Rattle.lw_match.proofs.sweeping.hunt_all.Given as goal

abbrev pub invariant-loop-number : goal.invariant-loop-number
invariant-loop-number g l = record {
  goes_on : HuntsOn g.C.Cost.costs l.query l.initial.hunt l.hunt;
  none : HasNoneBelow g.C.Cost.costs l.query l.number l.hunt;
}
