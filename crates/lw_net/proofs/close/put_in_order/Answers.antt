use Rattle.std.proofs.Common.{ℕ, List, length, refl, sym, subst}
use Rattle.std.proofs.lemmas.List.Sorted.{All-permutation, IsPermutation-map}
use Rattle.std.specs.List.Sorted.{IsNonDecreasingBy}
use Rattle.lw_net.specs.declared.draft.DraftNode.{DraftNode}
use Rattle.lw_net.specs.Closing.{network_in}
use Rattle.lw_net.specs.Numbers.{draft_in}
use Rattle.lw_net.specs.Ordering.{TellDepths}
use Rattle.lw_net.specs.Written.{named_node, named_nodes, IsWithin}
use Rattle.lw_net.proofs.Assembled.{of_order_distinct, of_order_few, of_order_kept, of_order_rises}
use Rattle.lw_net.proofs.NamedOrder.{at_out, tell_numbered, rising_named, closed_by}
use Rattle.lw_net.proofs.close.put_in_order.Goals as goal

pub returns-clause-order : goal.returns-clause-order
returns-clause-order c =
    let w = c.args.w.now in
    let keys = w.names.keys in
    let nodes = w.nodes.items in
    let order = c.in_ok-nodes.nodes.items in
    let given = c.deref.result.now in
    let draft = draft_in w in
    let right = c.in_ok-depths.ensures.right in
    let depths = c.in_ok-depths.depths.items in
    let named = named_nodes keys order in
    let moved = rw c.replace-taken.ensures.value at c.in_ok-nodes.ensures.permutation in
    let turned = IsPermutation-map (named_node keys) nodes order moved in
    let rising = rw c.replace-taken.ensures.value at c.in_ok-nodes.ensures.rising in
    let sorted = rw c.replace-taken.ensures.value at c.in_ok-nodes.ensures.order in
    let rises : (depth : List ℕ → ℕ) → TellDepths given draft.nodes depth → IsNonDecreasingBy (λ (node : DraftNode). depth node.out) named = λ depth tell. rising_named keys depth order (rising (at_out keys depth) (tell_numbered keys depth given nodes tell)) in
    record {
      signals = record {
        kept = record {
          names = c.requires.kept.names;
          inputs = c.requires.kept.inputs;
          outputs = c.requires.kept.outputs;
          nodes = All-permutation (IsWithin (length keys)) nodes order moved c.requires.kept.nodes;
        };
        distinct = of_order_distinct draft depths given named named c.requires.draft right c.deref.ensures.value turned rises refl;
        few = of_order_few draft depths given named named c.requires.draft right c.deref.ensures.value turned rises refl;
      };
      network = of_order_kept draft depths given named named c.requires.draft right c.deref.ensures.value turned rises refl;
      closed =
          closed_by draft depths keys nodes order (network_in draft named) refl right
          (sorted (at_out keys right.depth) (tell_numbered keys right.depth given nodes (subst (λ l. TellDepths l draft.nodes right.depth) (sym c.deref.ensures.value) right.told)))
          refl;
      depths = of_order_rises draft depths given named named c.requires.draft right c.deref.ensures.value turned rises refl (network_in draft named) refl;
    }
