use Rattle.std.proofs.Common.{ℕ, ◌≡◌, ◌∙◌, ◌++◌, List, length, map, drop, ap, ap₂, sym, subst, subst₂}
use Rattle.lw_net.specs.declared.node.Node.{Node}
use Rattle.lw_net.specs.Networks.{IsNetwork, NetworkParts, input_names}
use Rattle.lw_net.specs.Unions.{CanBeJoined, joined_to, placed_node}
use Rattle.lw_net.proofs.Unions.{joined_is_network, rest_of, same_nodes}
use Rattle.lw_net.proofs.network.Network.joined.Goals as goal

pub invariant_of-result : goal.invariant_of-result
invariant_of-result c =
    let one : NetworkParts = record { model = c.self.inside.model; names = c.self.inside.names; inputs = c.self.inside.inputs; nodes = c.self.inside.nodes; outputs = c.self.inside.outputs } in
    let other = c.args.other.now in
    let places = c.args.places.now in
    let can : CanBeJoined one other places = subst (λ (n : NetworkParts). CanBeJoined n other places) (sym c.self.view_is) c.requires in
    let all = joined_is_network one other places c.self.invariant c.nodes.ensures.kept can in
    let nodes : c.from_vec-2.result ≡ (joined_to one other places).nodes = c.from_vec-2.ensures ∙ (c.in_ok-add_nodes.ensures ∙ ap₂ (λ (xs ys : List Node). xs ++ ys) c.into_vec-nodes.ensures (same_nodes _ _ _ _ places _ _ c.inputs-inputs.ensures.inputs (c.nets.ensures.nets ∙ sym (ap (λ (n : NetworkParts). length n.names) c.self.view_is)) c.nodes.ensures.nodes)) in
    let names : c.from_vec.result ≡ (joined_to one other places).names = c.from_vec.ensures ∙ (c.in_ok-add_names.ensures ∙ ap₂ (λ (xs ys : List (List ℕ)). xs ++ ys) c.into_vec-names.ensures (rest_of _ _ _ _ c.inputs-inputs.ensures.inputs c.names.ensures.names)) in
    subst₂ (λ (ns : List (List ℕ)) (ms : List Node). IsNetwork (record { model = one.model; names = ns; inputs = one.inputs; nodes = ms; outputs = one.outputs })) (sym names) (sym nodes) all
