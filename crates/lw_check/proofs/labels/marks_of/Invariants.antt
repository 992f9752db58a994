use Rattle.std.proofs.Common.{◌≡◌, map, take}
use Rattle.lw_check.specs.Least.{flat_mark}
use Rattle.lw_check.proofs.labels.marks_of.Given as goal

abbrev pub invariant-loop-label : goal.invariant-loop-label
invariant-loop-label l = l.marks.items ≡ map flat_mark (take l.label-index l.labels)
