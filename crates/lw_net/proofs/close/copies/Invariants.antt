use Rattle.std.proofs.Common.{◌≡◌, take}
use Rattle.lw_net.specs.Written.{names_in}
use Rattle.lw_net.proofs.close.copies.Given as goal

abbrev pub invariant-loop-number : goal.invariant-loop-number
invariant-loop-number l = l.copies.items ≡ names_in l.names.keys (take l.number-index l.list)
