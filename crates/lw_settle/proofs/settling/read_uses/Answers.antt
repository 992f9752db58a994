use Rattle.std.proofs.Common.{◌<◌, ◌≡◌, ◌+◌, length, sym, subst, ◌∙◌, arith}
use Rattle.lw_settle.specs.Settling.{HasRead, IsReadingOf}
use Rattle.lw_settle.specs.Stores.{AreOfStoredCells, uses_of}
use Rattle.lw_settle.proofs.settling.read_uses.Goals as goal

pub read_use-requires-clause-may : goal.read_use-requires-clause-may
read_use-requires-clause-may g c =
    let costs = g.C.Cost.costs c.args.cost.now in
    let l = c.loop-n in
    let back = sym l.invariant.lists in
    let (s, w) = c.requires.reading in
    record {
      class = subst (λ ls. c.args.class.0 < length ls) back c.requires.class;
      of_cells = subst (AreOfStoredCells costs.pin_counts) back c.requires.of_cells;
      reading = (s, subst (λ ls. IsReadingOf costs ls s c.args.class.0 l.n l.store.done c.args.marks.now l.queue l.left) back (l.invariant.reading s w));
    }

pub loop-n-preserved : goal.loop-n-preserved
loop-n-preserved g c =
    let costs = g.C.Cost.costs c.args.cost.now in
    let l = c.loop-n in
    let new = c.read_use.new in
    record {
      lists = c.read_use.ensures.lists ∙ l.invariant.lists;
      reading = λ s w.
          let before = subst (λ ls. IsReadingOf costs ls s c.args.class.0 l.n l.store.done c.args.marks.now l.queue l.left) (sym l.invariant.lists) (l.invariant.reading s w) in
          subst (λ ls. IsReadingOf costs ls s c.args.class.0 (l.n + 1) new.store.done c.args.marks.now new.queue new.left) l.invariant.lists (c.read_use.ensures.reading s before);
    }

pub returns : goal.returns
returns g c =
    let l = c.loop-n in
    let all : l.n ≡ length (uses_of c.args.store.now.lists c.args.class.0) = omega (arith, c.uses-n-end.ensures) in
    subst (λ n. HasRead (g.C.Cost.costs c.args.cost.now) c.args.store.now l.store c.args.class.0 0 n c.args.marks.now c.args.queue.now l.queue c.args.left.now l.left) all l.invariant
