use Rattle.std.proofs.Common.{ℕ, List, Option, Some, None, subst}
use Rattle.lw_laws.specs.Rounds.{labels_in}
use Rattle.lw_check.specs.Failing.{IsMatchCost}
use Rattle.lw_check.specs.Least.{IsLeastOf}
use Rattle.lw_check.proofs.Table.{least_found, none_given}
use Rattle.lw_check.proofs.labelling.Trial.least_match.Goals as goal

pub least_within-requires : goal.least_within-requires
least_within-requires g c =
    let table = c.requires.table in
    record { class = c.requires.inside; one_each = table.one_each; in_range = table.in_range; of_cells = table.of_cells; fits = table.fit }

pub returns-in-Some : goal.returns-in-Some
returns-in-Some g c =
    let t = c.args.self.now in
    let costs = g.C.Cost.costs t.given.now.by.cost.now in
    subst (λ (ls : List (Option ℕ)). IsLeastOf (IsMatchCost t.given.now.graph.now costs t.given.now.by.pats.now (labels_in ls) c.args.class.0) (Some c.in-Some.best.mark.cost)) t.labels_are
    (least_found t.given.now.graph.now costs t.given.now.by.pats.now t.marks.now c.args.class.0 c.in-Some.best (c.in-Some.ensures.least c.requires.table.bounds))

pub returns-in-None : goal.returns-in-None
returns-in-None g c =
    let t = c.args.self.now in
    let costs = g.C.Cost.costs t.given.now.by.cost.now in
    subst (λ (ls : List (Option ℕ)). IsLeastOf (IsMatchCost t.given.now.graph.now costs t.given.now.by.pats.now (labels_in ls) c.args.class.0) None) t.labels_are
    (none_given t.given.now.graph.now costs t.given.now.by.pats.now t.marks.now c.args.class.0 (c.in-None.ensures.least c.requires.table.bounds))
