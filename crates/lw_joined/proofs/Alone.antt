-- Alone and without links a network is mapped over its own forms.
use Rattle.std.proofs.Common.{ℕ, zero, suc, ◌+◌, ◌-◌, ◌<◌, ◌≡◌, Bool, true, false, cond, nat_lt, List, [], ◌∷◌, length, map, slice_index_or, refl, ap, ap₂, ◌∙◌, arith}
use Rattle.std.proofs.lemmas.Bool.{ltb-true, ltb-false}
use Rattle.std.proofs.lemmas.List.{append-nil, length-take-le}
use Rattle.lw_pool.specs.declared.id.NetId.{NetId}
use Rattle.lw_pool.specs.Numbers.{net_number}
use Rattle.lw_laws.specs.Networks as laws
use Rattle.lw_laws.specs.Signals.{Signal, signals_of}
use Rattle.lw_laws.specs.Listings.{listing_of}
use Rattle.lw_laws.specs.Occurring.{occurring_forms}
use Rattle.lw_net.specs.Networks.{IsNetwork, NetworkParts, input_names, plain, plain_node}
use Rattle.lw_net.specs.Unions.{placed_net, placed_node}
use Rattle.lw_net.specs.declared.node.Node.{Node}
use Rattle.lw_joined.specs.Joins.{joined_listing}
use Rattle.lw_joined.specs.Unions.{own_places, places_from, united}

place_at : (i n k : ℕ) → k < n → slice_index_or (places_from i n) k 0 ≡ i + k
place_at i zero k lt = absurd (omega arith)
place_at i (suc n) zero lt = omega arith
place_at i (suc n) (suc k) lt = let h = place_at (suc i) n k (omega arith) in omega arith

-- each net keeps its number
module _ (inputs first : ℕ) (same : first ≡ inputs) where
  abbrev place : NetId → NetId
  place s = placed_net inputs first (own_places inputs) s

  keeps : (s : NetId) → net_number (place s) ≡ net_number s
  keeps s = by (nat_lt s.0 inputs) refl
    where
      by : (b : Bool) → nat_lt s.0 inputs ≡ b → cond b (slice_index_or (own_places inputs) s.0 0) (first + (s.0 - inputs)) ≡ s.0
      by true e = place_at 0 inputs s.0 (ltb-true s.0 inputs e) ∙ omega arith
      by false e = let low = ltb-false s.0 inputs e in omega arith

  all_keep : (nets : List NetId) → map net_number (map place nets) ≡ map net_number nets
  all_keep [] = refl
  all_keep (s ∷ nets) = ap₂ (λ (k : ℕ) (ks : List ℕ). k ∷ ks) (keeps s) (all_keep nets)

  nodes_keep : (nodes : List Node) → map plain_node (map (placed_node inputs first (own_places inputs)) nodes) ≡ map plain_node nodes
  nodes_keep [] = refl
  nodes_keep (node ∷ nodes) =
      ap₂ (λ (fanins : List ℕ) (rest : List laws.Node). record { fanins = fanins; rows = (plain_node node).rows; on = node.on } ∷ rest) (all_keep node.fanins) (nodes_keep nodes)

pub no_links : (width : ℕ) (net : laws.Network) → joined_listing width net [] ≡ listing_of width net
no_links width net = ap (λ (signals : List Signal). record { width = width; bases = occurring_forms width net; signals = signals }) (append-nil (signals_of width net))

pub plain_alone : (net : NetworkParts) → IsNetwork net → plain (united net [] []) ≡ plain net
plain_alone net kept =
    let named = kept.named in
    let first : length (input_names net) ≡ net.inputs = length-take-le net.inputs net.names (omega arith) in
    ap (λ (nodes : List laws.Node). record { inputs = net.inputs; nodes = nodes }) (nodes_keep net.inputs (length (input_names net)) first net.nodes)

pub alone : (width : ℕ) (net : NetworkParts) → IsNetwork net → joined_listing width (plain (united net [] [])) [] ≡ listing_of width (plain net)
alone width net kept = no_links width (plain (united net [] [])) ∙ ap (listing_of width) (plain_alone net kept)
