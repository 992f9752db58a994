-- A draft whose names are numbered: inputs, and then the nodes' outputs, as they are written.
use Rattle.std.specs.Prelude.{ℕ, ◌≡◌, Some, ⊤, List, map}
use Rattle.lw_net.specs.declared.draft.DraftNode.{DraftNode}
use Rattle.lw_net.specs.declared.fault.NetFault.{NetFault}
use Rattle.lw_net.specs.declared.fault.NetFault.TheVariants.{Undefined, Cycle, Memory}
use Rattle.lw_net.specs.Closing.{number_in, undefined_in}

-- The first of these names that is no signal is named.
abbrev pub TellsUndefined : List (List ℕ) → List (List ℕ) → NetFault → Type 0
TellsUndefined signals names (Undefined name) = undefined_in signals names ≡ Some name
TellsUndefined signals names (Cycle name) = ⊥
TellsUndefined signals names Memory = ⊤

-- the numbers of each node's fan-ins
abbrev pub numbered : List (List ℕ) → List DraftNode → List (List ℕ)
numbered signals nodes = map (λ (node : DraftNode). map (number_in signals) node.fanins) nodes
