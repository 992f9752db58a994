use Rattle.lw_bounds.proofs.Rowing.{AreRowsBelow}
use Rattle.lw_bounds.proofs.making.row_count.Given as goal

abbrev pub invariant-loop-number : goal.invariant-loop-number
invariant-loop-number l = AreRowsBelow l.graph.pairs l.number l.rows
