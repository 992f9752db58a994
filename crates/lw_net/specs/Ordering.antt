-- Nodes and their depths.
use Rattle.std.specs.Prelude.{ℕ, ◌<◌, ◌≤◌, ◌≡◌, None, All, List, length, slice_index_or}
use Rattle.lw_net.specs.declared.draft.Draft.{Draft}
use Rattle.lw_net.specs.declared.draft.DraftNode.{DraftNode}
use Rattle.lw_net.specs.Closing.{first_undefined, HasNoCycle, AreSignalDepths}

-- these are the depths of what the nodes drive, by place
abbrev pub TellDepths : List ℕ → List DraftNode → (List ℕ → ℕ) → Type 0
TellDepths depths nodes depth =
    (k : ℕ) (d : DraftNode) → k < length nodes → slice_index_or depths k 0 ≡ depth (slice_index_or nodes k d).out

-- The draft has neither fault, and its nodes have these depths.
pub record AreRight (draft : Draft) (depths : List ℕ) : Type 0 where
  pub defined : first_undefined draft ≡ None
  pub no_cycle : HasNoCycle draft.nodes
  pub depth : List ℕ → ℕ
  pub right : AreSignalDepths draft depth
  pub told : TellDepths depths draft.nodes depth
  pub one_each : length draft.nodes ≡ length depths
  pub least : All (λ d. 1 ≤ d) depths
