use Rattle.std.proofs.lemmas.Result.{IfOk-weaker}
use Rattle.lw_area.proofs.Smaller.{first_times, one_start}
use Rattle.lw_area.proofs.recovering.Case.least.Goals as goal

pub arrivals_of-requires-clause-over : goal.arrivals_of-requires-clause-over
arrivals_of-requires-clause-over c = c.requires.first.over

pub arrivals_of-requires-clause-one_start : goal.arrivals_of-requires-clause-one_start
arrivals_of-requires-clause-one_start c = one_start c.args.self.now c.requires.case c.args.first.now c.requires.first

pub arrivals_of-requires-clause-early : goal.arrivals_of-requires-clause-early
arrivals_of-requires-clause-early c = c.requires.case.model.starts.early

pub arrivals_of-requires-clause-few : goal.arrivals_of-requires-clause-few
arrivals_of-requires-clause-few c = c.requires.first.few

pub times_at-requires : goal.times_at-requires
times_at-requires c = rw (c.outputs.ensures.outputs, c.deref.ensures.value, c.in_ok-arrivals.ensures.one_each) c.gates.ensures.kept.outputs

pub returns : goal.returns
returns c =
    IfOk-weaker c.times_at.result _ _
    (λ times is. first_times c.args.self.now c.requires.case c.args.first.now c.requires.first c.in_ok-arrivals.arrivals.items times.items c.in_ok-arrivals.ensures.are (rw (c.outputs.ensures.outputs, c.deref.ensures.value) at is))
    c.times_at.ensures
