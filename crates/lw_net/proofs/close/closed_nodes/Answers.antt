use Rattle.std.proofs.Common.{◌++◌, ◌∷◌, [], map, All, length, sym, ap, subst, ◌∙◌, append_assoc}
use Rattle.std.proofs.lemmas.List.Elements.{All-head, All-tail}
use Rattle.std.specs.Vec.Iter.{into_iter_items}
use Rattle.lw_net.specs.Written.{placed_node, IsWithin}
use Rattle.lw_net.proofs.close.closed_nodes.Goals as goal

pub closed-requires : goal.closed-requires
closed-requires c =
    All-head (IsWithin (length c.args.places.now)) c.in-Some.node (into_iter_items c.next.new.self)
    (subst (All (IsWithin (length c.args.places.now))) c.in-Some.ensures.items c.nodes.invariant.within)

pub nodes-preserved : goal.nodes-preserved
nodes-preserved c =
    let places = c.args.places.now in
    let rest = into_iter_items c.next.new.self in
    let done = c.nodes.done.items in
    record {
      so_far =
          ap (λ ds. ds ++ map (placed_node places) rest) c.in_ok-push.ensures.items
          ∙ (append_assoc done (c.in_ok-closed.field-0 ∷ []) (map (placed_node places) rest)
          ∙ (ap (λ n. done ++ n ∷ map (placed_node places) rest) c.in_ok-closed.ensures
          ∙ (ap (λ xs. done ++ map (placed_node places) xs) (sym c.in-Some.ensures.items) ∙ c.nodes.invariant.so_far)));
      within = All-tail (IsWithin (length places)) c.in-Some.node rest
          (subst (All (IsWithin (length places))) c.in-Some.ensures.items c.nodes.invariant.within);
    }
