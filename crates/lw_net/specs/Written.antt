-- Names that stand once in a list, and their numbers there.
use Rattle.std.specs.Prelude.{ℕ, ◌-◌, ◌<◌, ◌≤◌, ◌≡◌, List, [], map, length, slice_index_or, All}
use Rattle.lw_pool.specs.declared.id.NetId.{NetId}
use Rattle.lw_net.specs.declared.draft.DraftNode.{DraftNode}
use Rattle.lw_net.specs.declared.node.Node.{Node}
use Rattle.lw_net.specs.declared.written.NumberedNode.{NumberedNode}

-- the name with a number
abbrev pub name_at : List (List ℕ) → ℕ → List ℕ
name_at names n = slice_index_or names n []

abbrev pub names_in : List (List ℕ) → List ℕ → List (List ℕ)
names_in names numbers = map (name_at names) numbers

-- a node with names in place of numbers
abbrev pub named_node : List (List ℕ) → NumberedNode → DraftNode
named_node names node =
    record { out = name_at names node.out; fanins = names_in names node.fanins; rows = node.rows; on = node.on }

abbrev pub named_nodes : List (List ℕ) → List NumberedNode → List DraftNode
named_nodes names nodes = map (named_node names) nodes

-- The numbers of a node are below this one.
pub record IsWithin (n : ℕ) (node : NumberedNode) : Type 0 where
  pub out : node.out < n
  pub fanins : All (λ f. f < n) node.fanins

-- Names keep their numbers, and more may come behind them.
pub record IsLonger (old new : List (List ℕ)) : Type 0 where
  pub more : length old ≤ length new
  pub same : (n : ℕ) → n < length old → name_at new n ≡ name_at old n

abbrev pub number_of_out : NumberedNode → ℕ
number_of_out node = node.out

-- 1 more than the place of a name among the signals, or 0 where it is none
abbrev pub place_at : List ℕ → ℕ → ℕ
place_at places n = slice_index_or places n 0

-- The places of all names among the first of these signals, which are numbers of names.
pub record ArePlaces (count some : ℕ) (signals places : List ℕ) : Type 0 where
  pub one_each : length places ≡ count
  pub found : (n : ℕ) → 0 < place_at places n → (place_at places n ≤ some)
      × (slice_index_or signals (place_at places n - 1) 0 ≡ n)
  pub told : (i : ℕ) → i < some → 0 < place_at places (slice_index_or signals i 0)

-- the net of a name
abbrev pub net_placed : List ℕ → ℕ → NetId
net_placed places n = record { 0 = place_at places n - 1 }

-- a node with nets in place of numbers
abbrev pub placed_node : List ℕ → NumberedNode → Node
placed_node places node =
    record {
      out = net_placed places node.out;
      fanins = map (net_placed places) node.fanins;
      rows = node.rows;
      on = node.on;
    }
