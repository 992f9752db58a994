use Rattle.std.proofs.Common.{◌≡◌, ◌++◌, map, take}
use Rattle.lw_net.specs.Written.{number_of_out}
use Rattle.lw_net.proofs.written.signal_list.Given as goal

abbrev pub invariant-loop-node : goal.invariant-loop-node
invariant-loop-node l = l.list.items ≡ l.initial.list.items ++ map number_of_out (take l.node-index l.nodes)
