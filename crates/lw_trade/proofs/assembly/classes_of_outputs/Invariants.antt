use Rattle.std.proofs.Common.{◌≡◌, map, take}
use Rattle.lw_trade.specs.Traded.{port_net}
use Rattle.lw_trade.proofs.assembly.classes_of_outputs.Given as goal
use Rattle.lw_pool.specs.Numbers.{numbers}

abbrev pub invariant-loop-port : goal.invariant-loop-port
invariant-loop-port l = numbers l.classes.items ≡ map port_net (take l.port-index l.outputs)
