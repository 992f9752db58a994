use Rattle.lw_check.specs.Cases.{claim_of}
use Rattle.lw_check.proofs.Matching.{HaveFirst}
use Rattle.lw_check.proofs.gates.classes_of_pins.Given as goal

abbrev pub invariant-loop-pin : goal.invariant-loop-pin
invariant-loop-pin l = HaveFirst (claim_of l.case) l.pins l.pin-index l.classes
