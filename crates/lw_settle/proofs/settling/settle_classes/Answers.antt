use Rattle.std.proofs.Common.{[], Some, length, set, sym, ◌∙◌, subst, subst₂, arith}
use Rattle.std.proofs.lemmas.List.{drop_all}
use Rattle.std.proofs.lemmas.Option.{slice_get_within}
use Rattle.lw_cost.specs.Values.{plain_mark}
use Rattle.lw_settle.specs.Queues.{AreNone}
use Rattle.lw_settle.specs.Settling.{IsReading, IsReadingOf, IsReadingSome, Stage}
use Rattle.lw_settle.specs.Stores.{AreOfStoredCells, uses_of}
use Rattle.lw_settle.proofs.Rising.{class_taken, marks_rise}
use Rattle.lw_settle.proofs.settling.settle_classes.Goals as goal

pub loop-taken-smaller : goal.loop-taken-smaller
loop-taken-smaller g c =
    let costs = g.C.Cost.costs c.args.cost.now in
    let l = c.loop-taken in
    let t = c.in-Some.taken in
    let (s, w) = c.requires.reading in
    let r = l.invariant.reading s w in
    marks_rise costs l.store.lists s.graph s.start l.store.done l.marks l.queue l.left t r c.in-Some.ensures.0

pub read_uses-requires : goal.read_uses-requires
read_uses-requires g c =
    let costs = g.C.Cost.costs c.args.cost.now in
    let l = c.loop-taken in
    let t = c.in-Some.taken in
    let (s, w) = c.requires.reading in
    let r = l.invariant.reading s w in
    let st : Stage = record { graph = s.graph; start = s.start; top = plain_mark t.mark } in
    let now = subst (λ q. IsReadingOf costs l.store.lists st t.class.0 0 l.store.done (set l.marks t.class.0 (Some t.mark)) q l.left) (sym c.in-Some.ensures.1) (class_taken costs l.store.lists s.graph s.start l.store.done l.marks l.queue l.left t r c.in-Some.ensures.0) in
    let waits = slice_get_within l.queue t.class.0 (Some t.mark) c.in-Some.ensures.0.at in
    record {
      class = omega (arith, waits, r.reading.one_wait);
      of_cells = subst (AreOfStoredCells costs.pin_counts) (sym l.invariant.lists) c.requires.of_cells;
      reading = (st, now);
    }

pub loop-taken-preserved : goal.loop-taken-preserved
loop-taken-preserved g c = record {
  lists = c.read_uses.ensures.lists ∙ c.loop-taken.invariant.lists;
  reading = λ s w.
      let costs = g.C.Cost.costs c.args.cost.now in
      let l = c.loop-taken in
      let t = c.in-Some.taken in
      let r = l.invariant.reading s w in
      let st : Stage = record { graph = s.graph; start = s.start; top = plain_mark t.mark } in
      let now = subst (λ q. IsReadingOf costs l.store.lists st t.class.0 0 l.store.done (set l.marks t.class.0 (Some t.mark)) q l.left) (sym c.in-Some.ensures.1) (class_taken costs l.store.lists s.graph s.start l.store.done l.marks l.queue l.left t r c.in-Some.ensures.0) in
      let marks = set l.marks t.class.0 (Some t.mark) in
      let new = c.read_uses.new in
      let uses = uses_of l.store.lists t.class.0 in
      let read = (c.read_uses.ensures.reading st now).reading in
      let all = subst (λ us. IsReading costs l.store.lists st us new.store.done marks new.queue new.left) (drop_all (length uses) uses (omega arith)) read in
      record {
        top = plain_mark t.mark;
        reading = subst (λ ls. IsReading costs ls st [] new.store.done marks new.queue new.left) (sym c.read_uses.ensures.lists) all;
      };
}

pub returns : goal.returns
returns g c =
    let costs = g.C.Cost.costs c.args.cost.now in
    let l = c.loop-taken in
    let same = sym c.in_default.ensures.1 in
    record {
      lists = l.invariant.lists;
      none = subst AreNone same c.in_default.ensures.0;
      reading = λ s w. subst₂ (λ ls q. IsReadingSome costs ls s.graph s.start l.store.done l.marks q l.left) l.invariant.lists same (l.invariant.reading s w);
    }
