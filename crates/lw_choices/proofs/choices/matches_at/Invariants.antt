use Rattle.std.proofs.Common.{◌++◌, length, map}
use Rattle.lw_cost.specs.Coming.{AreMatches, FitsGraph, still_to_come}
use Rattle.lw_cost.specs.Values.{plain_match}
use Rattle.lw_choices.proofs.choices.matches_at.Given as goal

abbrev pub invariant-loop-found : goal.invariant-loop-found
invariant-loop-found l = record {
  fits : FitsGraph l.cursor l.graph;
  are : AreMatches l.graph l.pats l.fn.class.0 (map plain_match l.list.items ++ still_to_come l.cursor l.graph l.pats);
}

abbrev pub decreases-loop-found : goal.decreases-loop-found
decreases-loop-found l = length (still_to_come l.cursor l.graph l.pats)
