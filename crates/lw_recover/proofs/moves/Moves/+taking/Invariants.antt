use Rattle.std.proofs.Common.{◌+◌, ◌*◌}
use Rattle.lw_recover.proofs.moves.Moves.+taking.Given as goal

-- a pin's cone may be one less deep
abbrev pub decreases-take : goal.decreases-take
decreases-take l = 3 * l.terms.depth + 2

abbrev pub decreases-take_linked : goal.decreases-take_linked
decreases-take_linked l = 3 * l.terms.depth + 1

abbrev pub decreases-take_pins : goal.decreases-take_pins
decreases-take_pins l = 3 * l.terms.depth
