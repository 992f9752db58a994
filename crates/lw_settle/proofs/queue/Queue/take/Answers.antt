use Rattle.std.proofs.Common.{◌<◌, ◌≡◌, None, length, drop, set, refl, sym, ap, ◌∙◌, subst, arith}
use Rattle.std.proofs.lemmas.List.{get_or_read, with_items_is}
use Rattle.lw_cost.specs.declared.mark.Mark.{Mark}
use Rattle.lw_settle.specs.declared.entry.Entry.{Entry}
use Rattle.lw_settle.specs.Queues.{AreNone, IsFirst, IsTree, no_entry, waiting}
use Rattle.lw_settle.specs.declared.queue.Taken.{Taken}
use Rattle.lw_settle.proofs.Queueing.{root_class, is_first, none_waits, tree_set, waiting_set}
use Rattle.lw_settle.proofs.queue.Queue.take.Goals as goal

pub returns-then-first : goal.returns-then-first
returns-then-first c =
    let first = get_or_read c.self.inside.tree.items 1 c.index-first.result.now (omega (arith, c.self.invariant.long, c.self.invariant.some)) c.index-first.ensures no_entry in
    (subst AreNone c.self.view_is (none_waits c.self.inside.classes c.self.inside.tree.items c.self.invariant (sym (ap (λ (e : Entry). e.height) first) ∙ c.if-first.true)), refl)

pub set_leaf-requires-clause-class : goal.set_leaf-requires-clause-class
set_leaf-requires-clause-class c =
    let first = get_or_read c.self.inside.tree.items 1 c.index-first.result.now (omega (arith, c.self.invariant.long, c.self.invariant.some)) c.index-first.ensures no_entry in
    let class : c.index-first.result.now.class < c.self.inside.classes = subst (λ (e : Entry). e.class < c.self.inside.classes) (sym first) (root_class c.self.inside.classes c.self.inside.tree.items c.self.invariant).0 in
    class

pub invariant_of-self : goal.invariant_of-self
invariant_of-self c =
    let s = c.self.inside in
    let n = s.classes in
    let new = c.set_leaf.new.tree in
    let same : length new ≡ s.tree.len = omega (arith, c.set_leaf.auto.tree, c.deref_mut.ensures.len) in
    let whole = with_items_is s.tree new same in
    let leaves = c.set_leaf.ensures.leaves ∙ ap (λ t. set (drop n t) c.index-first.result.now.class c.no_mark.result) c.deref_mut.ensures.value in
    let long : length new ≡ length s.tree.items = omega (arith, c.set_leaf.auto.tree, ap length c.deref_mut.ensures.value) in
    let first = get_or_read c.self.inside.tree.items 1 c.index-first.result.now (omega (arith, c.self.invariant.long, c.self.invariant.some)) c.index-first.ensures no_entry in
    let class : c.index-first.result.now.class < c.self.inside.classes = subst (λ (e : Entry). e.class < c.self.inside.classes) (sym first) (root_class c.self.inside.classes c.self.inside.tree.items c.self.invariant).0 in
    subst (IsTree n) (sym whole) (tree_set n s.tree.items c.self.invariant new c.index-first.result.now.class c.no_mark.result long c.set_leaf.ensures.tree.won leaves c.no_mark.ensures.leaf class)

pub returns : goal.returns
returns c =
    let first = get_or_read c.self.inside.tree.items 1 c.index-first.result.now (omega (arith, c.self.invariant.long, c.self.invariant.some)) c.index-first.ensures no_entry in
    let x = c.index-first.result.now in
    let mark : Mark = record { cost = x.cost; height = x.height } in
    let t : Taken = record { class = record { 0 = x.class }; mark = mark } in
    let made : Entry → Mark = λ e. record { cost = e.cost; height = e.height } in
    let s = c.self.inside in
    let n = s.classes in
    let new = c.set_leaf.new.tree in
    let same : length new ≡ s.tree.len = omega (arith, c.set_leaf.auto.tree, c.deref_mut.ensures.len) in
    let whole = with_items_is s.tree new same in
    let leaves = c.set_leaf.ensures.leaves ∙ ap (λ t. set (drop n t) c.index-first.result.now.class c.no_mark.result) c.deref_mut.ensures.value in (
      subst (λ w. IsFirst w t) c.self.view_is (is_first c.self.inside.classes c.self.inside.tree.items c.self.invariant t (λ e. c.if-first.false (ap (λ (y : Entry). y.height) first ∙ e)) (ap (λ (y : Entry). y.class) first) (ap made first)),
      ap (waiting n) whole ∙ (waiting_set n s.tree.items c.self.invariant new c.index-first.result.now.class c.no_mark.result leaves ∙ (ap (set (waiting n s.tree.items) c.index-first.result.now.class) c.no_mark.ensures.none ∙ ap (λ w. set w c.index-first.result.now.class None) c.self.view_is)),
    )
