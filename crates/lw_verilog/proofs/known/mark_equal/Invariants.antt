use Rattle.lw_verilog.proofs.Chains.{IsWalked}
use Rattle.lw_verilog.proofs.known.mark_equal.Given as goal

abbrev pub invariant-places : goal.invariant-places
invariant-places l = IsWalked l.names l.name l.left l.initial.flags l.flags

abbrev pub decreases-places : goal.decreases-places
decreases-places l = l.left
