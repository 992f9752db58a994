use Rattle.std.proofs.Common.{length, ap, sym, ◌∙◌}
use Rattle.std.proofs.lemmas.List.{length-map}
use Rattle.lw_cost.specs.Labels.{cost_in}
use Rattle.lw_check.proofs.Failures.{fails_in, none_failing}
use Rattle.lw_check.proofs.Reasons.{unbounded_from}
use Rattle.lw_check.proofs.labelling.Trial.first_unbounded.Goals as goal

pub least_at-requires : goal.least_at-requires
least_at-requires g c =
    let t = c.args.self.now in
    let inside = fails_in t.given.now.graph.now (g.C.Cost.costs t.given.now.by.cost.now) t.given.now.by.pats.now t.given.now.labels.now c.classes.ensures.kept (sym (ap length t.labels_are) ∙ (length-map t.marks.now cost_in ∙ c.requires.one_each)) c.in-Some.class.0 c.in-Some.ensures.0 in
    record { inside = inside; table = c.requires }

pub returns-in-Some : goal.returns-in-Some
returns-in-Some g c =
    let t = c.args.self.now in
    unbounded_from t.given.now.graph.now (g.C.Cost.costs t.given.now.by.cost.now) t.given.now.by.pats.now t.given.now.labels.now c.classes.ensures.kept (sym (ap length t.labels_are) ∙ (length-map t.marks.now cost_in ∙ c.requires.one_each)) c.in-Some.class.0 c.in-Some.ensures c.least_at.result c.least_at.ensures

pub returns-in-None : goal.returns-in-None
returns-in-None g c =
    let t = c.args.self.now in
    none_failing t.given.now.graph.now (g.C.Cost.costs t.given.now.by.cost.now) t.given.now.by.pats.now t.given.now.labels.now c.in-None.ensures
