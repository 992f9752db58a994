use Rattle.std.proofs.Common.{take, drop}
use Rattle.lw_genlib.proofs.Opening.{IsBetween}
use Rattle.lw_genlib.proofs.parsing.expression.Given as goal

abbrev pub invariant-loop-token : goal.invariant-loop-token
invariant-loop-token l = IsBetween l.pins (take l.token-index l.tokens) (drop l.token-index l.tokens) l.reading
