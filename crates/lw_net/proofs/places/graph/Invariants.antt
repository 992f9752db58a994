use Rattle.std.proofs.Common.{◌≡◌, take, drop}
use Rattle.std.specs.List.{flat_map}
use Rattle.lw_net.specs.Closing.{fanins_of, undefined_in, signals_of}
use Rattle.lw_net.specs.Numbered.{numbered}
use Rattle.lw_net.specs.Numbers.{draft_in}
use Rattle.lw_net.specs.Written.{named_nodes}
use Rattle.lw_net.proofs.places.graph.Given as goal

abbrev pub invariant-loop-node : goal.invariant-loop-node
invariant-loop-node l = record {
  so_far : l.graph.items ≡ numbered (signals_of (draft_in l.w)) (take l.node-index (named_nodes l.w.names.keys l.nodes));
  rest : undefined_in (signals_of (draft_in l.w)) (flat_map fanins_of (drop l.node-index (named_nodes l.w.names.keys l.nodes))) ≡ undefined_in (signals_of (draft_in l.w)) (flat_map fanins_of (named_nodes l.w.names.keys l.nodes));
}
