use Rattle.lw_bounds.specs.Places.{AreRulesOf, HaveRules}
use Rattle.lw_bounds.proofs.places.group_of.Given as goal

abbrev pub invariant-loop-number : goal.invariant-loop-number
invariant-loop-number l = record {
  rules : AreRulesOf l.parts l.left l.right l.rules.items;
  whole : HaveRules l.parts l.left l.right l.rules.items l.number;
}
