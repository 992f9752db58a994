use Rattle.lw_joined.specs.Unions.{AreChosen}
use Rattle.lw_joined.proofs.taking.Offer.take_each.Given as goal

abbrev pub invariant-loop-place : goal.invariant-loop-place
invariant-loop-place l = AreChosen l.self l.place l.chosen
