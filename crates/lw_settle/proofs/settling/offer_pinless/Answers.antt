use Rattle.std.proofs.Common.{◌+◌, ◌≡◌, ◌<◌, [], length, sym, ap, ◌∙◌, subst, subst₂, arith}
use Rattle.lw_settle.specs.Settling.{IsSettling, first_stage}
use Rattle.lw_settle.specs.Stores.{AreKeptLists, AreOfStoredCells, StoreState, placed}
use Rattle.lw_settle.proofs.Rising.{done_low, pinless_marked, pinless_offered, pinned_kept}
use Rattle.lw_settle.proofs.settling.offer_pinless.Goals as goal
use Rattle.lw_settle.proofs.settling.offer_pinless.Goals.{then-left-place-eq0, else-left-place-eq0}

pub offer_match-requires : goal.offer_match-requires
offer_match-requires t c =
    let costs = t.C.Cost.costs c.args.cost.now in
    let l = c.loop-place in
    let (g, start, w0) = c.requires.settling in
    let w = l.invariant.settling g start w0 in
    let lt : l.place < length (placed l.store.lists) = omega (arith, c.matches-place-end.ensures.matches, ap (λ ls. length (placed ls)) l.invariant.lists) in
    let kept = subst AreKeptLists (sym l.invariant.lists) c.matches-place-end.ensures.kept in
    record {
      listed = lt;
      of_cells = subst (AreOfStoredCells costs.pin_counts) (sym l.invariant.lists) c.requires.of_cells;
      one_mark = w.one_mark;
      one_wait = w.one_wait;
      few = omega (arith, w.few, w.one_mark);
      low = w.sound.taken_fits;
      pins_marked = pinless_marked costs l.store.lists g start l.place l.store.done c.args.marks.now l.queue c.args.left.now w lt c.if-left-place-eq0.true;
      fresh = omega (arith, done_low l.store.lists l.place start l.store.done c.args.left.now kept w.fresh w.counted);
    }

pub loop-place-preserved : goal.loop-place-preserved
loop-place-preserved t c =
    let costs = t.C.Cost.costs c.args.cost.now in
    let l = c.loop-place in
    let lt : l.place < length (placed l.store.lists) = omega (arith, c.matches-place-end.ensures.matches, ap (λ ls. length (placed ls)) l.invariant.lists) in
    let is = t.met.C.Cost.laws c.args.cost.now in
    let of = subst (AreOfStoredCells costs.pin_counts) (sym l.invariant.lists) c.requires.of_cells in
    elim c.if-left-place-eq0.branch [
      | then-left-place-eq0 w ↦
          let o = w.offer_match in
          record {
            lists = ap (λ (st : StoreState). st.lists) w.store-is ∙ (o.ensures.read.lists ∙ l.invariant.lists);
            settling = λ g start w0.
                let before = l.invariant.settling g start w0 in
                let after = pinless_offered costs l.store.lists g start l.place l.store.done c.args.marks.now l.queue c.args.left.now before lt o.new.queue is of w.if-left-place-eq0.true o.ensures.one_wait o.ensures.offered in
                let new = subst₂ (λ ls d. IsSettling costs ls (first_stage g start) (length g.leaves) (l.place + 1) [] d c.args.marks.now o.new.queue c.args.left.now) (sym o.ensures.read.lists) (sym o.ensures.read.done) after in
                subst₂ (λ (st : StoreState) q. IsSettling costs st.lists (first_stage g start) (length g.leaves) (l.place + 1) [] st.done c.args.marks.now q c.args.left.now) (sym w.store-is) (sym w.queue-is) new;
          }
      | else-left-place-eq0 w ↦ record {
        lists = ap (λ (st : StoreState). st.lists) w.store-is ∙ l.invariant.lists;
        settling = λ g start w0.
            let before = l.invariant.settling g start w0 in
            let after = pinned_kept costs l.store.lists g start l.place l.store.done c.args.marks.now l.queue c.args.left.now before lt w.if-left-place-eq0.false in
            subst₂ (λ (st : StoreState) q. IsSettling costs st.lists (first_stage g start) (length g.leaves) (l.place + 1) [] st.done c.args.marks.now q c.args.left.now) (sym w.store-is) (sym w.queue-is) after;
      }
    ]

pub returns : goal.returns
returns t c =
    let costs = t.C.Cost.costs c.args.cost.now in
    let l = c.loop-place in
    let all : l.place ≡ length (placed c.args.store.now.lists) = omega (arith, c.matches-place-end.ensures.matches) in
    record {
      lists = l.invariant.lists;
      reading = λ g start w0. subst₂ (λ ls n. IsSettling costs ls (first_stage g start) (length g.leaves) n [] l.store.done c.args.marks.now l.queue c.args.left.now) l.invariant.lists all (l.invariant.settling g start w0);
    }
