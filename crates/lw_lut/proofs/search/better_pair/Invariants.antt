use Rattle.lw_lut.proofs.Pairs.{IsBest}
use Rattle.lw_lut.proofs.search.better_pair.Given as goal

abbrev pub invariant-loop-pair : goal.invariant-loop-pair
invariant-loop-pair l = IsBest l.counts l.pair-items l.fn.class.0 l.best l.found l.pair-index
