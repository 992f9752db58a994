use Rattle.std.proofs.Common.{◌≡◌, ◌++◌, take}
use Rattle.lw_net.proofs.naming.are_new.Given as goal

abbrev pub invariant-loop-name : goal.invariant-loop-name
invariant-loop-name l = l.set.keys ≡ l.initial.set.keys ++ take l.name-index l.names
