use Rattle.std.proofs.Common.{ℕ, ◌+◌, ◌*◌, ◌<◌, ◌≡◌, List, None, length, drop, set, sym, ap, ◌∙◌, subst, arith}
use Rattle.std.proofs.lemmas.List.{with_items_is}
use Rattle.lw_settle.specs.declared.entry.Entry.{Entry}
use Rattle.lw_settle.specs.Queues.{AreWonBut, IsLeafOf, mark_of, node}
use Rattle.lw_settle.proofs.Queueing.{none_after, leaves_after, all_none}
use Rattle.lw_settle.proofs.queue.Queue.new.Goals as goal

pub loop-class-preserved : goal.loop-class-preserved
loop-class-preserved c =
    let l = c.loop-class in
    let n = c.args.classes in
    let old = l.tree.items in
    let new = c.set_leaf.new.tree in
    let same : length new ≡ l.tree.len = omega (arith, c.set_leaf.auto.tree, c.deref_mut.ensures.len) in
    let whole = with_items_is l.tree new same in
    let leaves = c.set_leaf.ensures.leaves ∙ ap (λ t. set (drop n t) l.class c.no_mark-in-loop-class.result) c.deref_mut.ensures.value in
    let long : length new ≡ 2 * n = omega (arith, c.set_leaf.auto.tree, ap length c.deref_mut.ensures.value, l.invariant.long) in
    let P : List Entry → Type 0 = λ t. record { long : length t ≡ 2 * n; won : AreWonBut n t 0; none : (k : ℕ) → k < n → mark_of (node t (n + k)) ≡ None; leaves : (k : ℕ) → k < l.class + 1 → IsLeafOf (node t (n + k)) k } in
    subst P (sym whole) (record {
      long = long;
      won = c.set_leaf.ensures.tree.won;
      none = none_after n l.class old new c.no_mark-in-loop-class.result l.invariant.long c.loop-class-test.true leaves c.no_mark-in-loop-class.ensures.none l.invariant.none;
      leaves = leaves_after n l.class old new c.no_mark-in-loop-class.result l.invariant.long c.loop-class-test.true leaves c.no_mark-in-loop-class.ensures.leaf l.invariant.leaves;
    })

pub returns : goal.returns
returns c = all_none c.args.classes c.loop-class.tree.items c.loop-class.invariant.long c.loop-class.invariant.none
