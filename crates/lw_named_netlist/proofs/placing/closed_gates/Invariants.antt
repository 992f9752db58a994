use Rattle.std.proofs.Common.{◌≡◌, ℕ, List, map, take}
use Rattle.lw_named_netlist.specs.declared.draft.GateDraft.{GateDraft}
use Rattle.lw_named_netlist.specs.Closing.{closed_gate}
use Rattle.lw_named_netlist.specs.Ordering.{TellNets}
use Rattle.lw_named_netlist.specs.Placing.{IsMadeOf, gates_at}
use Rattle.lw_named_netlist.proofs.placing.closed_gates.Given as goal

abbrev pub invariant-loop-place : goal.invariant-loop-place
invariant-loop-place l = (draft : GateDraft) (net : List ℕ → ℕ) → IsMadeOf draft l.graph → TellNets l.graph.signals l.nets net → l.done.items ≡ map (closed_gate net) (gates_at draft.gates (take l.place-index l.places))
