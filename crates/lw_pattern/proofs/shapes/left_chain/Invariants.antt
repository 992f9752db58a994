use Rattle.std.proofs.Common.{◌≡◌, drop}
use Rattle.lw_laws.specs.Patterns.{left_chain}
use Rattle.lw_pattern.specs.Steps.{law_operator}
use Rattle.lw_pattern.proofs.shapes.left_chain.Given as goal

abbrev pub invariant-loop-next : goal.invariant-loop-next
invariant-loop-next l = left_chain (law_operator l.operator) l.chain (drop l.next-index l.rest) ≡ left_chain (law_operator l.operator) l.fn.first l.rest
