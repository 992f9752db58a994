use Rattle.std.proofs.Common.{◌≡◌, ◌<◌, [], length, get_or, sym, ap, subst, ◌∙◌, arith}
use Rattle.std.proofs.lemmas.List.{get_or_read, length-map}
use Rattle.lw_net.specs.declared.written.NumberedNode.{NumberedNode}
use Rattle.lw_net.specs.Written.{name_at, named_node}
use Rattle.lw_net.proofs.Writing.{bare, out_named}
use Rattle.lw_net.proofs.draft.DraftNodes.out.Goals as goal

pub returns : goal.returns
returns c =
    let keys = c.self.inside.names.keys in
    let nodes = c.self.inside.nodes.items in
    let node = c.index.result.now in
    let place = c.args.place in
    let name = c.index-names-index.result in
    let within : place < length nodes = omega (arith, c.requires, ap length c.self.view_is, length-map nodes (named_node keys)) in
    let read : node ≡ get_or nodes place bare = get_or_read nodes place node within c.index.ensures bare in
    let list : c.as_slice-names.result.now ≡ keys = c.as_slice-names.ensures.keys in
    let inside : node.out < length keys = subst (λ (n : NumberedNode). n.out < length keys) (sym read) (c.self.invariant place bare within).out in
    let named : name ≡ name_at keys node.out = get_or_read c.as_slice-names.result.now node.out name (omega (arith, ap length list)) c.index-names-index.is [] ∙ ap (λ l. name_at l node.out) list in
    out_named keys nodes c.args.self.now place name c.self.view_is within (named ∙ ap (λ (n : NumberedNode). name_at keys n.out) read)
