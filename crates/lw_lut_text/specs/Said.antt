-- What the text of a network of tables says, read as BLIF.
use Rattle.std.specs.Prelude.{ℕ, zero, suc, ◌+◌, ◌^◌, ◌==◌, ◌&&◌, ◌≡◌, ◌≤◌, Bool, true, not, List, [], ◌∷◌, ◌++◌}
use Rattle.std.specs.Prelude.{length, map, Some, if◌then◌else◌, codes, slice_get, slice_index_or, max}
use Rattle.std.specs.Str.{bytes_eq}
use Rattle.lw_pool.specs.declared.id.ClassId.{ClassId}
use Rattle.lw_pool.specs.declared.id.NetId.{NetId}
use Rattle.lw_net.specs.declared.draft.Draft.{Draft}
use Rattle.lw_net.specs.declared.draft.DraftNode.{DraftNode}
use Rattle.lw_net.specs.declared.node.Node.{Node}
use Rattle.lw_net.specs.Networks.{NetworkParts}
use Rattle.lw_lut.specs.Cuts.{is_set}
use Rattle.lw_lut.specs.Nets.{PlainTableNet}
use Rattle.lw_lut.specs.Texts.{binary, fanin_names, is_buffer, net_name}
use Rattle.lw_lut.specs.declared.table.Table.{Table}

-- the columns of a row for each set bit, in rising order
abbrev pub columns_from : Table → ℕ → ℕ → List (List ℕ)
columns_from t place zero = []
columns_from t place (suc count) =
    (if is_set t.bits place then binary (length t.fanins) place ∷ [] else []) ++ columns_from t (suc place) count

-- the node of a table
abbrev pub table_node : PlainTableNet → Table → DraftNode
table_node n t = record {
  out = net_name n t.out.0;
  fanins = fanin_names n t;
  rows = if is_buffer t then codes "0" ∷ [] else columns_from t 0 (2 ^ length t.fanins);
  on = not (is_buffer t);
}

-- the node of a wire, for a root whose net has another name
abbrev pub wire_nodes : PlainTableNet → List (List ℕ) → List ClassId → List DraftNode
wire_nodes n (output ∷ outputs) (root ∷ roots) =
    (if bytes_eq (net_name n root.0) output then [] else record {
      out = output;
      fanins = net_name n root.0 ∷ [];
      rows = codes "1" ∷ [];
      on = true;
    } ∷ [])
    ++ wire_nodes n outputs roots
wire_nodes n [] roots = []
wire_nodes n (output ∷ outputs) [] = []

-- the tables, and then the wires
abbrev pub draft_said : PlainTableNet → Draft
draft_said n = record {
  model = n.ports.model;
  inputs = n.ports.inputs;
  outputs = n.ports.outputs;
  nodes = map (table_node n) n.tables ++ wire_nodes n n.ports.outputs n.ports.roots;
}

-- a node that passes the value of its one fan-in on, by the row `1 1`
abbrev pub is_wire : Node → Bool
is_wire node =
    (length node.fanins == 1)
    && (node.on && (length node.rows == 1) && bytes_eq (slice_index_or node.rows 0 []) (codes "1"))

-- the greatest of the depths of some nets
abbrev pub deepest : List ℕ → List NetId → ℕ
deepest depths [] = 0
deepest depths (s ∷ nets) = max (slice_index_or depths s.0 0) (deepest depths nets)

-- How many nodes other than wires are on the longest path to each net: none at an input.
pub record AreTableDepths (net : NetworkParts) (depths : List ℕ) : Type 0 where
  pub one_each : length depths ≡ net.inputs + length net.nodes
  pub inputs : (i : ℕ) → suc i ≤ net.inputs → slice_get depths i ≡ Some 0
  pub nodes : (j : ℕ) (node : Node) → slice_get net.nodes j ≡ Some node
      → slice_get depths (net.inputs + j) ≡ Some ((if is_wire node then 0 else 1) + deepest depths node.fanins)
