use Rattle.lw_dag.specs.Rising.{AreNumbered}
use Rattle.lw_dag.proofs.levels.all_nodes.Given as goal

abbrev pub invariant-loop-j : goal.invariant-loop-j
invariant-loop-j l = AreNumbered l.j l.all.items
