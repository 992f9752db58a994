use Rattle.std.proofs.Common.{◌≡◌, drop}
use Rattle.lw_equal.specs.Ports.{first_lacking, names_of}
use Rattle.lw_equal.proofs.ports.lacking.Given as goal

abbrev pub invariant-loop-name : goal.invariant-loop-name
invariant-loop-name l = first_lacking (names_of l.kind l.other.side.now) (drop l.name-index l.names) ≡ first_lacking (names_of l.kind l.other.side.now) l.names
