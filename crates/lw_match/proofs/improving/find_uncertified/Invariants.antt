use Rattle.lw_bounds.specs.Cuts.{cuts_state}
use Rattle.lw_match.proofs.Better.{AreSureOrNoneBelow}
use Rattle.lw_match.proofs.improving.find_uncertified.Given as goal

abbrev pub invariant-loop-number : goal.invariant-loop-number
invariant-loop-number g l =
    AreSureOrNoneBelow (cuts_state l.query.site.cuts.now) l.query.site.graph.now (g.C.Cost.costs l.query.site.cost.now) l.query.site.pats.now l.query.site.marks.now l.query.site.class.0 l.number l.target
