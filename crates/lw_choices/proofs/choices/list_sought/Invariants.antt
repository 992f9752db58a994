use Rattle.std.proofs.Common.{◌≤◌, length}
use Rattle.lw_choices.specs.Rows.{AreListedFrom, IsUnderWay}
use Rattle.lw_choices.proofs.choices.list_sought.Given as goal

abbrev pub invariant-loop-class : goal.invariant-loop-class
invariant-loop-class l = record {
  low : l.class ≤ length l.graph.pairs;
  way : IsUnderWay l.lib l.to;
  listing : AreListedFrom l.graph l.pats l.lib l.class l.to.rows;
}

abbrev pub decreases-loop-class : goal.decreases-loop-class
decreases-loop-class l = l.class
