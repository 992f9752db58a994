-- The network of so many nodes that is drawn from a seed.
use Rattle.std.specs.Prelude.{ℕ, ◌+◌, ◌-◌, ◌*◌, ◌%◌, ◌==◌, nat_lt, not, List, [], ◌∷◌, ◌++◌, map, drop, if◌then◌else◌}
use Rattle.std.specs.Prelude.{codes}
use Rattle.std.specs.Fmt.{decimal}
use Rattle.std.specs.List.{range_with_len}
use Rattle.lw_net.specs.declared.draft.Draft.{Draft}
use Rattle.lw_net.specs.declared.draft.DraftNode.{DraftNode}
use Rattle.lw_net.specs.Networks.{NetworkParts}
use Rattle.lw_net.specs.Closing.{IsClosed, out_of}
use Rattle.lw_big.specs.Draws.{draw}

-- how many nodes there are at most
abbrev pub most_nodes : ℕ
most_nodes = 20000

-- The names of the signals by their numbers: the inputs i0 to i15, and then the nodes g0, g1 and so on.
unfoldable pub signal_name : ℕ → List ℕ
signal_name s = if nat_lt s 16 then codes "i" ++ decimal s else codes "g" ++ decimal (s - 16)

-- the names of so many signals from one on
unfoldable pub signal_names : ℕ → ℕ → List (List ℕ)
signal_names first count = map signal_name (range_with_len first count)

-- The fan-ins of node k are two of the 16 + k signals before it: this one,
unfoldable pub first_fanin : ℕ → ℕ → ℕ
first_fanin seed k = draw seed (3 * k) % (16 + k)

-- and a second that differs from it: where it is drawn as well, the signal behind it
abbrev pub other_than : ℕ → ℕ → ℕ → ℕ
other_than first drawn signals = if drawn == first then (first + 1) % signals else drawn

unfoldable pub second_fanin : ℕ → ℕ → ℕ
second_fanin seed k = other_than (first_fanin seed k) (draw seed (3 * k + 1) % (16 + k)) (16 + k)

-- the kind of node k: 0 for AND, 1 for OR, 2 for XOR, 3 for NAND
unfoldable pub node_kind : ℕ → ℕ → ℕ
node_kind seed k = draw seed (3 * k + 2) % 4

-- The rows of a kind: where the node is true, or, of a NAND, where it is false.
abbrev pub rows_of : ℕ → List (List ℕ)
rows_of kind =
    if kind == 1 then codes "1-" ∷ codes "-1" ∷ [] else
    (if kind == 2 then codes "10" ∷ codes "01" ∷ [] else codes "11" ∷ [])

-- node k with these two fan-ins and of this kind
abbrev pub node_with : ℕ → ℕ → ℕ → ℕ → DraftNode
node_with k first second kind = record {
  out = signal_name (16 + k);
  fanins = signal_name first ∷ signal_name second ∷ [];
  rows = rows_of kind;
  on = not (kind == 3);
}

-- node k of those that are drawn from the seed
unfoldable pub drawn_node : ℕ → ℕ → DraftNode
drawn_node seed k = node_with k (first_fanin seed k) (second_fanin seed k) (node_kind seed k)

-- so many nodes from one on
unfoldable pub drawn_nodes : ℕ → ℕ → ℕ → List DraftNode
drawn_nodes seed first count = map (drawn_node seed) (range_with_len first count)

-- The network as it is written. Its outputs are the last 16 nodes, or all where there are fewer.
unfoldable pub drawn_draft : ℕ → ℕ → Draft
drawn_draft seed n = record {
  model = codes "big";
  inputs = signal_names 0 16;
  outputs = drop (n - 16) (map out_of (drawn_nodes seed 0 n));
  nodes = drawn_nodes seed 0 n;
}

-- The network of n nodes that is drawn from the seed: it is closed from what is drawn.
abbrev pub IsGenerated : ℕ → ℕ → NetworkParts → Type 0
IsGenerated seed n net = IsClosed (drawn_draft seed n) net
