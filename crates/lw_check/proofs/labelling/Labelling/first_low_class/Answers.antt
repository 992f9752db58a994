use Rattle.std.proofs.Common.{refl, arith}
use Rattle.std.proofs.lemmas.Bool.{iff_false}
use Rattle.lw_laws.specs.Rounds.{labels_in}
use Rattle.lw_check.specs.Least.{IsLow}
use Rattle.lw_check.proofs.Failures.{low_in}
use Rattle.lw_check.proofs.Lesser.{first_least}
use Rattle.lw_check.proofs.Timely.{below_next}
use Rattle.lw_check.proofs.labelling.Labelling.first_low_class.Goals as goal

pub returns-then-has_low_match : goal.returns-then-has_low_match
returns-then-has_low_match g c =
    first_least (IsLow c.args.self.now.graph.now (g.C.Cost.costs c.args.self.now.by.cost.now) c.args.self.now.by.pats.now (labels_in c.args.self.now.labels.now)) c.loop-number.number (c.if-has_low_match.ensures.0 refl) c.loop-number.invariant

pub loop-number-preserved : goal.loop-number-preserved
loop-number-preserved g c =
    below_next (λ b. IsLow c.args.self.now.graph.now (g.C.Cost.costs c.args.self.now.by.cost.now) c.args.self.now.by.pats.now (labels_in c.args.self.now.labels.now) b → ⊥) c.loop-number.number c.loop-number.invariant (iff_false c.if-has_low_match.ensures refl)

pub returns : goal.returns
returns g c = λ n low.
    let inside = low_in c.args.self.now.graph.now (g.C.Cost.costs c.args.self.now.by.cost.now) c.args.self.now.by.pats.now c.args.self.now.labels.now c.classes-number-end.ensures.kept c.args.self.now.one_each n low in
    let all = c.loop-number-test.false in
    let count = c.classes-number-end.ensures.classes in
    c.loop-number.invariant n (omega arith) low
