use Rattle.std.proofs.Common.{subst, sym, arith}
use Rattle.lw_cost.specs.Values.{AreInRange}
use Rattle.lw_bounds.specs.Cuts.{cuts_state}
use Rattle.lw_match.proofs.Better.{root_none}
use Rattle.lw_match.proofs.hunting.find_better_by.Goals as goal

pub returns-then-number-target : goal.returns-then-number-target
returns-then-number-target g c = record {
  sound = tt;
  none = λ e.
      let q = c.args.query.now in
      let costs = g.C.Cost.costs q.site.cost.now in
      root_none (cuts_state q.site.cuts.now) q.site.graph.now costs q.site.pats.now q.site.marks.now q.site.class.0 c.args.pat.0 c.root_number-number.result c.args.target.bound c.args.target.top (g.met.C.Cost.laws q.site.cost.now) (subst (λ n. AreInRange n q.site.marks.now) (sym (g.met.C.Cost.cap q.site.cost.now)) c.requires.query.in_range) c.requires.pat (c.root_number-number.ensures c.requires.query.cuts) (omega arith) (omega (arith, c.if-number-target.true)) c.args.target.is_top;
}
