use Rattle.std.proofs.Common.{List, map, take}
use Rattle.lw_net.specs.Plain.{plain_node}
use Rattle.lw_laws.specs.Signals.{Signal, signals_after}
use Rattle.lw_form.specs.Nets.{HasSignals}
use Rattle.lw_form.proofs.occurring.Occurring.add_nodes.Given as goal

abbrev pub invariant-loop-node : goal.invariant-loop-node
invariant-loop-node l = (signals : List Signal) → HasSignals l.initial.self signals → HasSignals l.self (signals_after l.maker.width signals (map plain_node (take l.node-index l.nodes)))
