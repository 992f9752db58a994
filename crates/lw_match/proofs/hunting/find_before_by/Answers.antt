use Rattle.std.proofs.Common.{subst}
use Rattle.lw_branch.specs.declared.job.Scope.{Scope}
use Rattle.lw_cost.specs.Values.{marks_in}
use Rattle.lw_bounds.specs.Cuts.{cuts_state}
use Rattle.lw_match.specs.Cutting.{AreSureCuts}
use Rattle.lw_match.specs.Queries.{SearchesBy, scope_of}
use Rattle.lw_match.proofs.Better.{match_by, none_by, ahead_of}
use Rattle.lw_match.proofs.Opens.{open_kept, nothing_kept}
use Rattle.lw_match.proofs.hunting.find_before_by.Goals as goal

pub returns : goal.returns
returns g c =
    let q = c.args.query.now in
    let costs = g.C.Cost.costs q.site.cost.now in
    let i = c.args.pat.0 in
    let target = c.args.target in
    let scope = scope_of target in
    let start = c.to_beat-best.result in
    let best = c.least_by.new.best in
    let searched = subst (λ (scope : Scope). SearchesBy g.C.Cost.costs q i scope start best) c.scope_of.ensures c.least_by.ensures in
    let cuts = AreSureCuts (cuts_state q.site.cuts.now) q.site.graph.now costs q.site.pats.now q.site.marks.now i scope in
    record {
      sound = match_by cuts q.site.graph.now costs q.site.pats.now (marks_in q.site.marks.now) q.site.class.0 i target.bound start best c.within.result c.to_beat-best.ensures searched c.within.ensures;
      none = λ whole bounds sure. none_by cuts q.site.graph.now costs q.site.pats.now (marks_in q.site.marks.now) q.site.class.0 i target.bound start best c.within.result searched c.within.ensures (λ b before. record {
        bounds = bounds;
        sure = sure;
        hunting = λ hunts. open_kept target.bound best (nothing_kept target.bound best c.within.result target.by_marks whole hunts c.within.ensures);
        ahead = λ m. ahead_of cuts q.site.graph.now costs q.site.pats.now (marks_in q.site.marks.now) q.site.class.0 target.bound best c.within.result b c.within.ensures before;
      });
    }
