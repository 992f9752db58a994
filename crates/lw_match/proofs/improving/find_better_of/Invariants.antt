use Rattle.lw_match.specs.Hunts.{IsHunt}
use Rattle.lw_match.proofs.improving.find_better_of.Given as goal

abbrev pub invariant-loop-pat : goal.invariant-loop-pat
invariant-loop-pat g l = IsHunt g.C.Cost.costs l.query l.fn.bound l.hunt
