use Rattle.std.proofs.Common.{ℕ, List, Option, None, slice_index_or, refl, sym, subst, true≢false}
use Rattle.lw_laws.specs.Rounds.{labels_in}
use Rattle.lw_check.specs.Least.{IsLow}
use Rattle.lw_check.proofs.Table.{low_found, none_low}
use Rattle.lw_check.proofs.labelling.Trial.is_low_at.Goals as goal

pub least_within-requires : goal.least_within-requires
least_within-requires g c =
    let table = c.requires.table in
    record { class = c.requires.inside; one_each = table.one_each; in_range = table.in_range; of_cells = table.of_cells; fits = table.fit }

pub returns-in-Some : goal.returns-in-Some
returns-in-Some g c =
    let t = c.args.self.now in
    let costs = g.C.Cost.costs t.given.now.by.cost.now in
    let low = low_found t.given.now.graph.now costs t.given.now.by.pats.now t.marks.now t.flat c.args.class.0 c.in-Some.field-0 (c.in-Some.ensures.sound.0) (slice_index_or t.marks.now c.args.class.0 None) refl (c.in-Some.ensures.sound.1) in
    (λ is. subst (λ (ls : List (Option ℕ)). IsLow t.given.now.graph.now costs t.given.now.by.pats.now (labels_in ls) c.args.class.0) t.labels_are low, λ low. refl)

pub returns-in-None : goal.returns-in-None
returns-in-None g c =
    let t = c.args.self.now in
    let costs = g.C.Cost.costs t.given.now.by.cost.now in
    let none = none_low t.given.now.graph.now costs t.given.now.by.pats.now t.marks.now c.args.class.0 (slice_index_or t.marks.now c.args.class.0 None) refl (c.in-None.ensures.least c.requires.table.bounds) in
    (λ is. absurd (true≢false (sym is)), λ low. absurd (none (subst (λ (ls : List (Option ℕ)). IsLow t.given.now.graph.now costs t.given.now.by.pats.now (labels_in ls) c.args.class.0) (sym t.labels_are) low)))
