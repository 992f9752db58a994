use Rattle.std.proofs.Common.{◌≡◌, length}
use Rattle.std.specs.Str.{bytes_eq}
use Rattle.indexmap.specs.IndexSet.{insert_all}
use Rattle.lw_mapped.proofs.contents.add_all.Given as goal

abbrev pub invariant-names : goal.invariant-names
invariant-names l = insert_all bytes_eq l.names.keys l.left.rest.items ≡ insert_all bytes_eq l.initial.names.keys l.initial.left.rest.items

abbrev pub decreases-names : goal.decreases-names
decreases-names l = length l.left.rest.items
