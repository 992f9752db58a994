use Rattle.std.proofs.Common.{◌≤◌, ◌+◌, length}
use Rattle.lw_lut.specs.Searches.{unknown_count}
use Rattle.lw_lut.specs.Sweeps.{IsAtDepth, IsSweptBut}
use Rattle.lw_lut.proofs.search.Search.find_all.Given as goal

abbrev pub invariant-loop-span : goal.invariant-loop-span
invariant-loop-span l = record {
  at : IsAtDepth l.task.graph.now l.task.leaves l.depth l.self;
  swept : IsSweptBut l.task.graph.now l.task.leaves l.self l.span;
  room : l.depth + unknown_count l.self.depths.items ≤ 1 + length l.task.graph.now.pairs;
}

abbrev pub decreases-loop-span : goal.decreases-loop-span
decreases-loop-span l = unknown_count l.self.depths.items
