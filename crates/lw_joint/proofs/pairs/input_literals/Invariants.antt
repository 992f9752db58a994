use Rattle.std.proofs.Common.{◌≡◌, map, take}
use Rattle.lw_joint.specs.Pairs.{input_literal}
use Rattle.lw_joint.proofs.pairs.input_literals.Given as goal

abbrev pub invariant-loop-place : goal.invariant-loop-place
invariant-loop-place l = l.literals.items ≡ map input_literal (take l.place-index l.places)
