use Rattle.std.proofs.Common.{take}
use Rattle.lw_clauses.specs.Checks.{IsLeft}
use Rattle.lw_clauses.proofs.denied.Denied.left_of.Given as goal

abbrev pub invariant-loop-literal : goal.invariant-loop-literal
invariant-loop-literal l = IsLeft l.self (take l.literal-index l.antecedent) l.left
