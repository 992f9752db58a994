use Rattle.std.proofs.Common.{◌≡◌, ◌++◌, map, drop}
use Rattle.lw_laws.specs.Patterns.{patterns_of_cell}
use Rattle.lw_pattern.specs.Listed.{listed}
use Rattle.lw_pattern.proofs.library.push_cell.Given as goal

abbrev pub invariant-loop-form : goal.invariant-loop-form
invariant-loop-form l = l.items.items ++ map listed (patterns_of_cell l.id.0 (drop l.form-index l.cell.forms)) ≡ l.fn.items.items ++ map listed (patterns_of_cell l.id.0 l.cell.forms)
