use Rattle.std.proofs.Common.{take}
use Rattle.lw_search.specs.Queries.{ArePartOfComplements}
use Rattle.lw_search.proofs.querying.are_complements.Given as goal

abbrev pub invariant-loop-literal : goal.invariant-loop-literal
invariant-loop-literal l = ArePartOfComplements l.roots (take l.literal-index l.clause)
