use Rattle.std.proofs.Common.{◌+◌, ◌-◌, ◌≡◌, ◌≢◌, ◌<◌, length, set, get_or, sym, ap, ◌∙◌, subst, arith}
use Rattle.std.proofs.lemmas.List.{length-set, get_or-set_same}
use Rattle.lw_settle.specs.Settling.{IsReadingOf, IsMatchOffered}
use Rattle.lw_settle.specs.Stores.{AreOfStoredCells, HasMarkedPins, placed}
use Rattle.lw_cost.specs.Values.{marks_in}
use Rattle.lw_settle.proofs.Rising.{done_low, use_place, some_left, read_kept, marked_pins, read_priced}
use Rattle.lw_settle.proofs.settling.read_use.Goals as goal

pub use_at-place-requires-clause-fresh : goal.use_at-place-requires-clause-fresh
use_at-place-requires-clause-fresh g c =
    let (s, w) = c.requires.may.reading in
    omega (arith, done_low c.args.store.now.lists (length (placed c.args.store.now.lists)) s.start c.args.store.now.done c.args.left.now c.matches.ensures.kept w.reading.fresh w.reading.counted)

pub bounds-left-place : goal.bounds-left-place
bounds-left-place g c =
    let costs = g.C.Cost.costs c.args.cost.now in
    let is = g.met.C.Cost.laws c.args.cost.now in
    let (s, w) = c.requires.may.reading in
    omega (arith, use_place costs c.args.store.now.lists s c.args.class.0 c.args.n c.args.store.now.done c.args.marks.now c.args.queue.now c.args.left.now c.use_at-place.result is c.matches.ensures.kept c.requires.may.of_cells w c.use_at-place.ensures.number, w.reading.counted.one_each)

pub overflow_sub-left : goal.overflow_sub-left
overflow_sub-left g c =
    let costs = g.C.Cost.costs c.args.cost.now in
    let is = g.met.C.Cost.laws c.args.cost.now in
    let (s, w) = c.requires.may.reading in
    omega (arith, some_left costs c.args.store.now.lists s c.args.class.0 c.args.n c.args.store.now.done c.args.marks.now c.args.queue.now c.args.left.now c.use_at-place.result is c.matches.ensures.kept c.requires.may.of_cells w c.use_at-place.ensures.number)

pub bounds-left-place-2 : goal.bounds-left-place-2
bounds-left-place-2 g c =
    let costs = g.C.Cost.costs c.args.cost.now in
    let is = g.met.C.Cost.laws c.args.cost.now in
    let (s, w) = c.requires.may.reading in
    omega (arith, use_place costs c.args.store.now.lists s c.args.class.0 c.args.n c.args.store.now.done c.args.marks.now c.args.queue.now c.args.left.now c.use_at-place.result is c.matches.ensures.kept c.requires.may.of_cells w c.use_at-place.ensures.number, w.reading.counted.one_each)

pub bounds-left-place-3 : goal.bounds-left-place-3
bounds-left-place-3 g c =
    let costs = g.C.Cost.costs c.args.cost.now in
    let is = g.met.C.Cost.laws c.args.cost.now in
    let (s, w) = c.requires.may.reading in
    let left = c.args.left.now in
    let place = c.use_at-place.result in
    omega (arith, use_place costs c.args.store.now.lists s c.args.class.0 c.args.n c.args.store.now.done c.args.marks.now c.args.queue.now c.args.left.now c.use_at-place.result is c.matches.ensures.kept c.requires.may.of_cells w c.use_at-place.ensures.number, w.reading.counted.one_each, length-set left place (get_or left place 0 - 1))

pub offer_match-requires : goal.offer_match-requires
offer_match-requires g c =
    let costs = g.C.Cost.costs c.args.cost.now in
    let is = g.met.C.Cost.laws c.args.cost.now in
    let (s, w) = c.requires.may.reading in
    let left = c.args.left.now in
    let place = c.use_at-place.result in
    let less = get_or left place 0 - 1 in
    let kept = c.matches.ensures.kept in
    let back = sym c.use_at-place.ensures.read.lists in
    let there = use_place costs c.args.store.now.lists s c.args.class.0 c.args.n c.args.store.now.done c.args.marks.now c.args.queue.now left place is kept c.requires.may.of_cells w c.use_at-place.ensures.number in
    let zero = sym (get_or-set_same left place less 0 (omega (arith, w.reading.counted.one_each))) ∙ c.if-left-place-eq0.true in
    record {
      listed = subst (λ ls. place < length (placed ls)) back there;
      of_cells = subst (AreOfStoredCells costs.pin_counts) back c.requires.may.of_cells;
      one_mark = subst (λ ls. length c.args.marks.now ≡ length ls) back w.reading.one_mark;
      one_wait = subst (λ ls. length c.args.queue.now ≡ length ls) back w.reading.one_wait;
      few = omega (arith, w.reading.few, w.reading.one_mark);
      low = w.reading.sound.taken_fits;
      pins_marked = subst (λ ls. HasMarkedPins ls (marks_in c.args.marks.now) place) back (marked_pins costs c.args.store.now.lists s c.args.class.0 c.args.n c.args.store.now.done c.args.marks.now c.args.queue.now left place is kept c.requires.may.of_cells w c.use_at-place.ensures.number zero);
      fresh = omega (arith, c.use_at-place.ensures.read.done, done_low c.args.store.now.lists (length (placed c.args.store.now.lists)) s.start c.args.store.now.done left kept w.reading.fresh w.reading.counted);
    }

pub returns-then-left-place-eq0 : goal.returns-then-left-place-eq0
returns-then-left-place-eq0 g c =
    let costs = g.C.Cost.costs c.args.cost.now in
    let is = g.met.C.Cost.laws c.args.cost.now in
    let lists = c.args.store.now.lists in
    let left = c.args.left.now in
    let place = c.use_at-place.result in
    let less = get_or left place 0 - 1 in
    let used = c.use_at-place.ensures in
    let o = c.offer_match.ensures in
    let offered = subst (λ ls. IsMatchOffered costs (placed ls) place (marks_in c.args.marks.now) (marks_in c.args.queue.now) (marks_in c.offer_match.new.queue)) used.read.lists o.offered in
    let done = o.read.done ∙ ap (λ n. n + 1) used.read.done in
    record {
      lists = o.read.lists ∙ used.read.lists;
      reading = λ s w.
          let zero = sym (get_or-set_same left place less 0 (omega (arith, use_place costs lists s c.args.class.0 c.args.n c.args.store.now.done c.args.marks.now c.args.queue.now left place is c.matches.ensures.kept c.requires.may.of_cells w used.number, w.reading.counted.one_each))) ∙ c.if-left-place-eq0.true in
          subst (λ d. IsReadingOf costs lists s c.args.class.0 (c.args.n + 1) d c.args.marks.now c.offer_match.new.queue (set left place less)) (sym done) (read_priced costs lists s c.args.class.0 c.args.n c.args.store.now.done c.args.marks.now c.args.queue.now left place is c.matches.ensures.kept c.requires.may.of_cells w used.number c.offer_match.new.queue zero o.one_wait offered);
    }

pub returns-else-left-place-eq0 : goal.returns-else-left-place-eq0
returns-else-left-place-eq0 g c =
    let costs = g.C.Cost.costs c.args.cost.now in
    let is = g.met.C.Cost.laws c.args.cost.now in
    let lists = c.args.store.now.lists in
    let left = c.args.left.now in
    let place = c.use_at-place.result in
    let less = get_or left place 0 - 1 in
    let used = c.use_at-place.ensures in
    record {
      lists = used.read.lists;
      reading = λ s w.
          let there = use_place costs lists s c.args.class.0 c.args.n c.args.store.now.done c.args.marks.now c.args.queue.now left place is c.matches.ensures.kept c.requires.may.of_cells w used.number in
          let ne : less ≢ 0 = λ e. c.if-left-place-eq0.false (get_or-set_same left place less 0 (omega (arith, w.reading.counted.one_each)) ∙ e) in
          subst (λ d. IsReadingOf costs lists s c.args.class.0 (c.args.n + 1) d c.args.marks.now c.args.queue.now (set left place less)) (sym used.read.done) (read_kept costs lists s c.args.class.0 c.args.n c.args.store.now.done c.args.marks.now c.args.queue.now left place is c.matches.ensures.kept c.requires.may.of_cells w used.number ne);
    }
