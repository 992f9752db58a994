use Rattle.std.proofs.Common.{◌≡◌, drop}
use Rattle.lw_equal.specs.Ports.{first_lacking}
use Rattle.lw_equal.specs.Sides.{inputs_of}
use Rattle.lw_equal.proofs.ports.strange.Given as goal

abbrev pub invariant-loop-name : goal.invariant-loop-name
invariant-loop-name l = first_lacking (inputs_of l.one.side.now.logic) (drop l.name-index l.names) ≡ first_lacking (inputs_of l.one.side.now.logic) l.names
