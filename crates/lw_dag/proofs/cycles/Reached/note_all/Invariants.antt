use Rattle.std.proofs.Common.{drop}
use Rattle.lw_dag.specs.Searching.{AreLookedAt}
use Rattle.lw_dag.proofs.cycles.Reached.note_all.Given as goal

abbrev pub invariant-loop-s : goal.invariant-loop-s
invariant-loop-s l = AreLookedAt l.inputs l.fanins (drop l.s-index l.fanins) l.initial.self l.self
