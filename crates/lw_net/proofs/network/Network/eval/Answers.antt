use Rattle.std.proofs.Common.{◌<◌, ◌++◌, false, drop, length, sym, ap, subst, ◌∙◌, get_or, arith}
use Rattle.std.proofs.lemmas.List.{get_or_append_left}
use Rattle.lw_net.proofs.Filling.{filled_values}
use Rattle.lw_net.proofs.network.Network.eval.Goals as goal

pub returns : goal.returns
returns c =
    let x = c.args.x.now in
    let front = c.copy_from_slice.new.self in
    let rest = drop (length x) c.args.nets.now in
    let is = c.copy_from_slice.ensures.after in
    filled_values c.args.self.now x (front ++ rest) c.fill.new.nets c.requires.one_x (omega (arith, c.nodes-nodes.ensures.kept.named)) c.fill.ensures.inputs
    (λ i below. get_or_append_left front rest false i (subst (λ bs. i < length bs) (sym is) below) ∙ ap (λ bs. get_or bs i false) is)
    (λ j node at. c.fill.ensures.values j node (rw c.nodes-nodes.ensures.nodes at))
