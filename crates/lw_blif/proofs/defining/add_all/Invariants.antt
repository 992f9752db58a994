use Rattle.std.proofs.Common.{◌≡◌, drop}
use Rattle.std.specs.Str.{bytes_eq}
use Rattle.indexmap.specs.IndexSet.{insert_all}
use Rattle.lw_blif.proofs.defining.add_all.Given as goal

abbrev pub invariant-loop-i : goal.invariant-loop-i
invariant-loop-i l = insert_all bytes_eq l.names.keys (drop l.i l.words) ≡ insert_all bytes_eq l.initial.names.keys (drop l.from l.words)
