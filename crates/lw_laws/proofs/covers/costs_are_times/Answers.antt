-- By the lemma.
use Rattle.lw_laws.proofs.Delays.{cost_of-time}
use Rattle.lw_laws.proofs.covers.costs_are_times.Goals as goal

pub returns : goal.returns
returns c = λ timing cap k. cost_of-time timing cap k
