use Rattle.std.proofs.Common.{◌≡◌, map, option_map, take}
use Rattle.lw_map.specs.Mappings.{label_of}
use Rattle.lw_map.proofs.certifying.labels_of.Given as goal

abbrev pub invariant-loop-mark : goal.invariant-loop-mark
invariant-loop-mark l = l.labels.items ≡ map (option_map label_of) (take l.mark-index l.marks)
