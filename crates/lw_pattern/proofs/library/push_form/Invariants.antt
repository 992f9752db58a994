use Rattle.std.proofs.Common.{◌≡◌, ◌++◌, map, take}
use Rattle.lw_laws.specs.Patterns.{pattern_of_cell}
use Rattle.lw_pattern.specs.Listed.{listed}
use Rattle.lw_pattern.proofs.library.push_form.Given as goal

abbrev pub invariant-loop-tree : goal.invariant-loop-tree
invariant-loop-tree l = l.items.items ≡ l.fn.items.items ++ map listed (map (pattern_of_cell l.id.0) (take l.tree-index l.tree-items))
