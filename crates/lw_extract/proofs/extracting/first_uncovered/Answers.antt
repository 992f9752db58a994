use Rattle.std.proofs.Common.{◌∙◌, ap, not}
use Rattle.lw_extract.proofs.Uncovered.{covered_more, covered_all, uncovered_here}
use Rattle.lw_extract.proofs.extracting.first_uncovered.Goals as goal

pub loop-k-preserved : goal.loop-k-preserved
loop-k-preserved c = covered_more c.args.marks.now c.args.roots.now c.loop-k.k (record { 0 = 0 }) c.loop-k-test.true (c.is_none.ensures ∙ ap not c.if-is_none.false) c.loop-k.invariant

pub returns-then-is_none : goal.returns-then-is_none
returns-then-is_none c = uncovered_here c.args.marks.now c.args.roots.now c.loop-k.k (record { 0 = 0 }) c.loop-k-test.true (c.is_none.ensures ∙ ap not c.if-is_none.true) c.loop-k.invariant

pub returns : goal.returns
returns c = covered_all c.args.marks.now c.args.roots.now c.loop-k.k c.loop-k-test.false c.loop-k.invariant
