use Rattle.lw_cost.specs.Values.{marks_in}
use Rattle.lw_match.proofs.Better.{match_twice}
use Rattle.lw_match.proofs.Sites.{aimed}
use Rattle.lw_match.proofs.hunting.find_at_number_by.Goals as goal

pub returns : goal.returns
returns g c =
    let q = c.args.query.now in
    aimed g.C.Cost.costs q c.args.pat.0 c.args.target c.within.result c.if-target.false (match_twice q.site.graph.now (g.C.Cost.costs q.site.cost.now) q.site.pats.now (marks_in q.site.marks.now) q.site.class.0 c.cheaper.result.bound c.args.target.bound c.find_before_by-found.result c.within.result c.find_before_by-found.ensures.sound c.within.ensures)
