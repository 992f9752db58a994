use Rattle.std.proofs.Common.{◌≡◌, ◌<◌, ◌++◌, length, All}
use Rattle.std.specs.Vec.Iter.{into_iter_items}
use Rattle.lw_net.specs.Written.{names_in, IsLonger}
use Rattle.lw_net.proofs.naming.numbers.Given as goal

abbrev pub invariant-names : goal.invariant-names
invariant-names l = record {
  longer : IsLonger l.initial.names.keys l.names.keys;
  within : All (λ n. n < length l.names.keys) l.numbers.items;
  named : names_in l.names.keys l.numbers.items ++ into_iter_items l.left ≡ l.fn.list;
}

abbrev pub decreases-names : goal.decreases-names
decreases-names l = length (into_iter_items l.left)
