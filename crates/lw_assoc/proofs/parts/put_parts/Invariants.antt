use Rattle.std.proofs.Common.{◌+◌, ◌-◌}
use Rattle.lw_assoc.specs.Parts.{HasParts}
use Rattle.lw_assoc.proofs.parts.put_parts.Given as goal

abbrev pub invariant-loop-step : goal.invariant-loop-step
invariant-loop-step l = HasParts l.forms l.b (l.all + 1 - l.step) l.parts
