use Rattle.std.proofs.Common.{[]}
use Rattle.lw_dag.specs.Rising.{IsLevellingIn, left_in}
use Rattle.lw_dag.proofs.levels.levels_of.Given as goal

abbrev pub invariant-telling : goal.invariant-telling
invariant-telling l = IsLevellingIn l.graph l.search []

abbrev pub decreases-telling : goal.decreases-telling
decreases-telling l = left_in l.search
