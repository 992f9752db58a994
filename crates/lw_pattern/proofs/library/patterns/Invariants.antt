use Rattle.std.proofs.Common.{◌≡◌, ◌++◌, map, drop}
use Rattle.lw_laws.specs.Patterns.{patterns_from}
use Rattle.lw_pattern.specs.Libraries.{forms_of, library_patterns}
use Rattle.lw_pattern.specs.Listed.{listed}
use Rattle.lw_pattern.proofs.library.patterns.Given as goal

abbrev pub invariant-loop-number : goal.invariant-loop-number
invariant-loop-number l = l.items.items ++ map listed (patterns_from l.number (map forms_of (drop l.number l.lib))) ≡ map listed (library_patterns l.lib)
