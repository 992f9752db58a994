use Rattle.std.proofs.Common.{◌≡◌, ◌<◌, ◌++◌, length, map, All, sym, ap, ap₂, subst, ◌∙◌, arith}
use Rattle.lw_net.specs.Numbers.{signal_numbers}
use Rattle.lw_net.specs.Written.{names_in, number_of_out, net_placed, placed_node}
use Rattle.lw_net.proofs.Placing.{signals_within, placed_network}
use Rattle.lw_net.proofs.close.parts_of.Goals as goal

pub copies-requires : goal.copies-requires
copies-requires c =
    let w = c.args.w.now in
    let list : c.in_ok-list.list.items ≡ signal_numbers w = c.in_ok-list.ensures ∙ ap₂ (λ a b. a ++ map number_of_out b) c.deref.ensures.value c.deref-2.ensures.value in
    subst (All (λ n. n < length w.names.keys)) (sym (c.deref-3.ensures.value ∙ list)) (signals_within w c.requires.kept)

pub returns : goal.returns
returns c =
    let w = c.args.w.now in
    let list : c.in_ok-list.list.items ≡ signal_numbers w = c.in_ok-list.ensures ∙ ap₂ (λ a b. a ++ map number_of_out b) c.deref.ensures.value c.deref-2.ensures.value in
    let inputs : c.len-inputs.result ≡ length w.inputs.items = omega (arith, c.len-inputs.ensures) in
    let nodes = rw c.replace-taken.ensures.value at c.in_ok-nodes.ensures in
    placed_network w c.in_ok-places.places.items c.in_ok-places.ensures c.from_vec.result c.len-inputs.result c.from_vec-2.result c.in_ok-outputs.outputs
    (c.from_vec.ensures ∙ (c.in_ok-names.ensures ∙ ap (names_in w.names.keys) (c.deref-3.ensures.value ∙ list)))
    inputs
    (c.from_vec-2.ensures ∙ (nodes ∙ ap (λ ps. map (placed_node ps) w.nodes.items) c.deref-6.ensures.value))
    (c.in_ok-outputs.ensures ∙ ap₂ (λ ps ns. map (net_placed ps) ns) c.deref-4.ensures.value c.deref-5.ensures.value)
