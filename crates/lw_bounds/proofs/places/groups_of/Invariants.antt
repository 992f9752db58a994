use Rattle.lw_bounds.specs.Places.{AreGroupsOf}
use Rattle.lw_bounds.proofs.Placing.{HaveRulesBelow}
use Rattle.lw_bounds.proofs.places.groups_of.Given as goal

abbrev pub invariant-loop-number : goal.invariant-loop-number
invariant-loop-number l = record {
  rules : AreGroupsOf l.parts l.groups.items;
  whole : HaveRulesBelow l.parts l.groups.items l.number;
}
