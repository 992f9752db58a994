use Rattle.std.proofs.Common.{drop}
use Rattle.lw_dag.specs.Rising.{HasSettled}
use Rattle.lw_dag.proofs.levels.Search.settle_all.Given as goal

abbrev pub invariant-loop-at : goal.invariant-loop-at
invariant-loop-at l = HasSettled l.graph (drop l.at l.list) l.initial.self l.self
