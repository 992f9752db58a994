use Rattle.std.proofs.Common.{◌+◌, ◌<◌, ◌≡◌, length, drop, set, sym, ap, ◌∙◌, subst, subst₂, arith}
use Rattle.std.proofs.lemmas.List.{get_or_read, with_items_is}
use Rattle.lw_settle.specs.Queues.{is_before, IsLowered, IsTree, no_entry, waiting}
use Rattle.lw_settle.proofs.Queueing.{length-waiting, tree_set, offer_lowers, offer_keeps}
use Rattle.lw_settle.proofs.queue.Queue.offer.Goals as goal

pub invariant_of-self : goal.invariant_of-self
invariant_of-self c =
    let s = c.self.inside in
    let n = s.classes in
    let new = c.set_leaf.new.tree in
    let same : length new ≡ s.tree.len = omega (arith, c.set_leaf.auto.tree, c.deref_mut.ensures.len) in
    let whole = with_items_is s.tree new same in
    let leaves = c.set_leaf.ensures.leaves ∙ ap (λ t. set (drop n t) c.args.class.0 c.with_mark-entry.result) c.deref_mut.ensures.value in
    let long : length new ≡ length s.tree.items = omega (arith, c.set_leaf.auto.tree, ap length c.deref_mut.ensures.value) in
    let class : c.args.class.0 < c.self.inside.classes = omega (arith, c.requires.class, ap length c.self.view_is, length-waiting c.self.inside.classes c.self.inside.tree.items c.self.invariant) in
    let leaf = get_or_read c.self.inside.tree.items (c.self.inside.classes + c.args.class.0) c.index.result.now (omega (arith, c.self.invariant.long)) c.index.ensures no_entry in
    subst (IsTree n) (sym whole) (tree_set n s.tree.items c.self.invariant new c.args.class.0 c.with_mark-entry.result long c.set_leaf.ensures.tree.won leaves (c.with_mark-entry.ensures c.requires.height).leaf class)

pub returns-then-is_before : goal.returns-then-is_before
returns-then-is_before c =
    let s = c.self.inside in
    let n = s.classes in
    let new = c.set_leaf.new.tree in
    let same : length new ≡ s.tree.len = omega (arith, c.set_leaf.auto.tree, c.deref_mut.ensures.len) in
    let whole = with_items_is s.tree new same in
    let leaves = c.set_leaf.ensures.leaves ∙ ap (λ t. set (drop n t) c.args.class.0 c.with_mark-entry.result) c.deref_mut.ensures.value in
    let long : length new ≡ length s.tree.items = omega (arith, c.set_leaf.auto.tree, ap length c.deref_mut.ensures.value) in
    let class : c.args.class.0 < c.self.inside.classes = omega (arith, c.requires.class, ap length c.self.view_is, length-waiting c.self.inside.classes c.self.inside.tree.items c.self.invariant) in
    let leaf = get_or_read c.self.inside.tree.items (c.self.inside.classes + c.args.class.0) c.index.result.now (omega (arith, c.self.invariant.long)) c.index.ensures no_entry in
    let before = ap (is_before c.with_mark-entry.result) (sym leaf) ∙ (sym c.is_before.ensures ∙ c.if-is_before.true) in
    subst₂ (λ old now. IsLowered old now c.args.class.0 c.args.mark) c.self.view_is (sym (ap (waiting n) whole)) (offer_lowers n s.tree.items c.self.invariant new c.args.class.0 c.with_mark-entry.result c.args.mark class leaves (c.with_mark-entry.ensures c.requires.height).some (sym (c.with_mark-entry.ensures c.requires.height).cost_is) (sym (c.with_mark-entry.ensures c.requires.height).height_is) before)

pub returns-else-is_before : goal.returns-else-is_before
returns-else-is_before c =
    let s = c.self.inside in
    let class : c.args.class.0 < c.self.inside.classes = omega (arith, c.requires.class, ap length c.self.view_is, length-waiting c.self.inside.classes c.self.inside.tree.items c.self.invariant) in
    let leaf = get_or_read c.self.inside.tree.items (c.self.inside.classes + c.args.class.0) c.index.result.now (omega (arith, c.self.invariant.long)) c.index.ensures no_entry in
    let before = ap (is_before c.with_mark-entry.result) (sym leaf) ∙ (sym c.is_before.ensures ∙ c.if-is_before.false) in
    let entry = c.with_mark-entry.ensures c.requires.height in
    subst (λ old. IsLowered old old c.args.class.0 c.args.mark) c.self.view_is (offer_keeps s.classes s.tree.items c.self.invariant c.args.class.0 c.with_mark-entry.result c.args.mark class entry.leaf.cost (omega (arith, entry.height_is, c.requires.height)) (sym entry.cost_is) (sym entry.height_is) before)
