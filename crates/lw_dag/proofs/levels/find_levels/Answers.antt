use Rattle.lw_dag.proofs.Sorting.{ok_then}
use Rattle.lw_dag.proofs.levels.find_levels.Goals as goal

pub invariant_of-small : goal.invariant_of-small
invariant_of-small c = record { small = record { graph = c.requires.graph; few = c.requires.few } }

pub returns-clause-heights : goal.returns-clause-heights
returns-clause-heights c = ok_then c.levels_of.result c.levels_of.ensures (λ l is. is.heights)

pub returns-clause-low : goal.returns-clause-low
returns-clause-low c = ok_then c.levels_of.result c.levels_of.ensures (λ l is. is.low)

pub returns-clause-ordered : goal.returns-clause-ordered
returns-clause-ordered c = ok_then c.levels_of.result c.levels_of.ensures (λ l is. is.ordered)
