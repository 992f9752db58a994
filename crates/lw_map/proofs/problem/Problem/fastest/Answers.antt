use Rattle.std.proofs.Common.{subst}
use Rattle.lw_label.specs.Delays.{time_cost}
use Rattle.lw_map.specs.Covering.{LacksLeastLabel}
use Rattle.lw_map.proofs.Problems.{fastest_is, mappable_by_time}
use Rattle.lw_map.proofs.Refusals.{lack_within, cover_refused}
use Rattle.lw_map.proofs.problem.Problem.fastest.Goals as goal

pub mapped-requires : goal.mapped-requires
mapped-requires c = rw (c.new-cost.ensures.lib, c.new-cost.ensures.starts) (mappable_by_time c.args.self.now c.requires)

pub returns-in-Ok-clause-mapping : goal.returns-in-Ok-clause-mapping
returns-in-Ok-clause-mapping c =
    fastest_is c.args.self.now c.requires c.args.labeller c.in-Ok.mapping c.gates.ensures.kept (rw (c.new-cost.ensures.lib, c.new-cost.ensures.starts) at c.in-Ok.ensures.mapped)

pub refused-requires : goal.refused-requires
refused-requires c = λ k e.
    let p = c.args.self.now in
    lack_within p.net.now p.starts.now p.choices.now c.requires.network c.requires.chosen p.lib.now p.pats c.requires.patterns k
    (subst (LacksLeastLabel (time_cost p.lib.now p.starts.now) p) e (rw (c.new-cost.ensures.lib, c.new-cost.ensures.starts) at c.in-Err.ensures.lacks))

pub returns-in-Err-clause-fault : goal.returns-in-Err-clause-fault
returns-in-Err-clause-fault c =
    let p = c.args.self.now in
    cover_refused p.net.now p.starts.now p.choices.now c.requires.network c.requires.chosen p.lib.now p.pats c.requires.patterns c.in-Err.fault c.refused.result
    (λ k e. subst (LacksLeastLabel (time_cost p.lib.now p.starts.now) p) e (rw (c.new-cost.ensures.lib, c.new-cost.ensures.starts) at c.in-Err.ensures.lacks)) c.refused.ensures.named c.refused.ensures.memory
