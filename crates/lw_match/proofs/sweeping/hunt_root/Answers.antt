use Rattle.std.proofs.Common.{ℕ, sym, ap, subst}
use Rattle.lw_bounds.specs.declared.parts.Root.{Root}
use Rattle.lw_cost.specs.Values.{AreInRange}
use Rattle.lw_match.specs.Hunts.{HasNoneLeft}
use Rattle.lw_match.proofs.RootLists.{far}
use Rattle.lw_match.proofs.sweeping.hunt_root.Goals as goal

pub returns-then-is_near-clause-none : goal.returns-then-is_near-clause-none
returns-then-is_near-clause-none g c = λ e i here.
    subst (λ (n : ℕ). HasNoneLeft g.C.Cost.costs c.args.query.now c.hunt_by.new.hunt n) (ap (λ (r : Root). r.pattern) here.is) (c.hunt_by.ensures.none e)

pub returns-else-is_near-clause-none : goal.returns-else-is_near-clause-none
returns-else-is_near-clause-none g c = λ e i here.
    let q = c.args.query.now in
    far g.C.Cost.costs q _ (g.met.C.Cost.laws q.site.cost.now) (subst (λ n. AreInRange n q.site.marks.now) (sym (g.met.C.Cost.cap q.site.cost.now)) c.requires.in_range) c.requires c.args.numbers.now c.args.root i c.args.hunt.now.target here (c.is_near.ensures c.if-is_near.false)
