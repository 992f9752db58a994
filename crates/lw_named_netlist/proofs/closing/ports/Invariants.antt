use Rattle.std.proofs.Common.{◌≡◌, ◌++◌, ℕ, List, map, length, All, Contains}
use Rattle.std.specs.Vec.Iter.{into_iter_items}
use Rattle.lw_named_netlist.specs.Closing.{port_at}
use Rattle.lw_named_netlist.specs.Ordering.{TellNets}
use Rattle.lw_named_netlist.proofs.closing.ports.Given as goal

abbrev pub invariant-names : goal.invariant-names
invariant-names l = record {
  so_far : (net : List ℕ → ℕ) → TellNets l.signals l.nets net → l.done.items ++ map (port_at net) (into_iter_items l.left) ≡ map (port_at net) l.fn.names.items;
  known : All (Contains l.signals) (into_iter_items l.left);
}

abbrev pub decreases-names : goal.decreases-names
decreases-names l = length (into_iter_items l.left)
