use Rattle.std.proofs.Common.{◌≡◌, ◌++◌, map, take}
use Rattle.lw_graph.specs.Index.{entry_of}
use Rattle.lw_graph.proofs.index.add_row.Given as goal

abbrev pub invariant-loop-pair : goal.invariant-loop-pair
invariant-loop-pair l = l.entries.items ≡ l.fn.entries.items ++ map (entry_of l.class) (take l.pair-index l.row)
