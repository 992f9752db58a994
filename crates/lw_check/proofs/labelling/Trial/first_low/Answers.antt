use Rattle.std.proofs.Common.{length, refl, ap, sym, ◌∙◌, arith}
use Rattle.std.proofs.lemmas.Bool.{iff_false}
use Rattle.std.proofs.lemmas.List.{length-map}
use Rattle.lw_laws.specs.Rounds.{labels_in}
use Rattle.lw_cost.specs.Labels.{cost_in}
use Rattle.lw_check.specs.Least.{IsLow}
use Rattle.lw_check.proofs.Failures.{low_in}
use Rattle.lw_check.proofs.Lesser.{first_least}
use Rattle.lw_check.proofs.Timely.{below_next}
use Rattle.lw_check.proofs.labelling.Trial.first_low.Goals as goal

pub returns-then-is_low_at : goal.returns-then-is_low_at
returns-then-is_low_at g c =
    let t = c.args.self.now in
    first_least (IsLow t.given.now.graph.now (g.C.Cost.costs t.given.now.by.cost.now) t.given.now.by.pats.now (labels_in t.given.now.labels.now)) c.loop-number.number (c.if-is_low_at.ensures.0 refl) c.loop-number.invariant

pub loop-number-preserved : goal.loop-number-preserved
loop-number-preserved g c =
    let t = c.args.self.now in
    below_next (λ b. IsLow t.given.now.graph.now (g.C.Cost.costs t.given.now.by.cost.now) t.given.now.by.pats.now (labels_in t.given.now.labels.now) b → ⊥) c.loop-number.number c.loop-number.invariant (iff_false c.if-is_low_at.ensures refl)

pub returns : goal.returns
returns g c = λ n low.
    let t = c.args.self.now in
    let inside = low_in t.given.now.graph.now (g.C.Cost.costs t.given.now.by.cost.now) t.given.now.by.pats.now t.given.now.labels.now c.classes-number-end.ensures.kept (sym (ap length t.labels_are) ∙ (length-map t.marks.now cost_in ∙ c.requires.one_each)) n low in
    let all = c.loop-number-test.false in
    let count = c.classes-number-end.ensures.classes in
    c.loop-number.invariant n (omega arith) low
