use Rattle.std.proofs.Common.{◌≡◌, false, take}
use Rattle.lw_genlib.specs.Functions.{is_among}
use Rattle.lw_genlib.proofs.function_check.is_among.Given as goal

abbrev pub invariant-loop-pin : goal.invariant-loop-pin
invariant-loop-pin l = is_among l.name (take l.pin-index l.pin-items) ≡ false
