use Rattle.lw_lut.specs.Searches.{HasStarted}
use Rattle.lw_lut.proofs.search.Search.give_inputs.Given as goal

abbrev pub invariant-loop-input : goal.invariant-loop-input
invariant-loop-input l = HasStarted l.graph l.leaves l.input l.self
