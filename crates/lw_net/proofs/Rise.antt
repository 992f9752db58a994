-- The plain network of a closed draft: in order, with depths that rise.
use Rattle.std.proofs.Common.{ℕ, ◌+◌, ◌<◌, map, Contains, sym, subst}
use Rattle.std.proofs.lemmas.List.Elements.{All-map, All-contains}
use Rattle.lw_facts.proofs.Lists.{IsImage, image_at}
use Rattle.lw_laws.specs.Networks as laws
use Rattle.lw_laws.specs.Networks.{IsInOrder}
use Rattle.lw_net.specs.Networks.{NetworkParts, IsNetwork}
use Rattle.lw_net.specs.Plain.{plain, plain_node}
use Rattle.lw_pool.specs.Numbers.{net_number}

pub in_order : (net : NetworkParts) → IsNetwork net → IsInOrder (plain net)
in_order net kept = record { before = λ j s node at among. at_image j s node (image_at plain_node net.nodes j node at) among }
  where
    at_image : (j s : ℕ) (node : laws.Node) → IsImage plain_node net.nodes j node → Contains node.fanins s → s < net.inputs + j
    at_image j s node i among =
        All-contains (λ t. t < net.inputs + j) (map net_number i.from.fanins) s
        (All-map (λ t. t < net.inputs + j) net_number i.from.fanins (kept.nodes j i.from i.at).before)
        (subst (λ (n : laws.Node). Contains n.fanins s) (sym i.is) among)
