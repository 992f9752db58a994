use Rattle.std.proofs.Common.{◌-◌, length}
use Rattle.lw_words.proofs.Runs.{Over}
use Rattle.lw_words.proofs.reading.over_plain.Given as goal

abbrev pub invariant-loop-at : goal.invariant-loop-at
invariant-loop-at l = Over l.initial.gathering l.gathering l.bytes l.at

abbrev pub decreases-loop-at : goal.decreases-loop-at
decreases-loop-at l = length l.bytes - l.at
