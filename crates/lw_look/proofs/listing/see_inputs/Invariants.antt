use Rattle.lw_look.proofs.RightLists.{AreInputsSeen}
use Rattle.lw_look.proofs.listing.see_inputs.Given as goal

abbrev pub invariant-loop-input : goal.invariant-loop-input
invariant-loop-input l = AreInputsSeen l.graph l.input l.seen
