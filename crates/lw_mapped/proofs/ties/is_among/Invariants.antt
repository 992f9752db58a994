use Rattle.std.proofs.Common.{◌≡◌, false, take}
use Rattle.std.specs.Str.{bytes_eq}
use Rattle.std.specs.List.{list_any}
use Rattle.lw_mapped.proofs.ties.is_among.Given as goal

abbrev pub invariant-loop-name : goal.invariant-loop-name
invariant-loop-name l = list_any (bytes_eq l.word) (take l.name-index l.names) ≡ false
