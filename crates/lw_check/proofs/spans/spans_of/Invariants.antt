use Rattle.lw_check.specs.Spans.{AreSpansOf}
use Rattle.lw_check.proofs.spans.spans_of.Given as goal

abbrev pub invariant-loop-number : goal.invariant-loop-number
invariant-loop-number l = AreSpansOf l.cells l.number l.pats l.spans.items
