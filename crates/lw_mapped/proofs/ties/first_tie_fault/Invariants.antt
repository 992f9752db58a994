use Rattle.std.proofs.Common.{◌≡◌, [], drop}
use Rattle.std.specs.List.{slice_range}
use Rattle.lw_mapped.specs.GateLines.{first_tie_fault}
use Rattle.lw_mapped.proofs.ties.first_tie_fault.Given as goal

abbrev pub invariant-loop-place : goal.invariant-loop-place
invariant-loop-place l = first_tie_fault l.cell (slice_range l.words 2 l.place) (drop l.place l.words) ≡ first_tie_fault l.cell [] (drop 2 l.words)
