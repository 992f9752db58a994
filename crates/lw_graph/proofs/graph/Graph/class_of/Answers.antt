use Rattle.lw_graph.specs.Rows.{rows_from}
use Rattle.std.proofs.Common.{◌≡◌, refl, subst, ◌∙◌, true, false, arith}
use Rattle.lw_laws.proofs.Flips.{xor-one}
use Rattle.lw_laws.specs.Graphs.{class_of}
use Rattle.lw_graph.proofs.Graphs.{chosen_class, class_within}
use Rattle.lw_graph.proofs.graph.Graph.class_of.Goals as goal

pub returns-then-form-eq0-clause-within : goal.returns-then-form-eq0-clause-within
returns-then-form-eq0-clause-within c =
    let g = c.self.inside in
    let f = c.args.form.0 in
    let k = c.get-class.result in
    let e = chosen_class g.one g.leaves g.forms (rows_from g.pairs.items 0 g.ends) f k k true c.get-class.ensures (grind (arith, c.if-form-eq0.true)) refl in
    class_within g.one g.leaves g.forms (rows_from g.pairs.items 0 g.ends) c.args.self.now f k k c.self.invariant.graph c.self.view_is c.get-class.ensures e

pub returns-else-form-eq0-clause-class : goal.returns-else-form-eq0-clause-class
returns-else-form-eq0-clause-class c =
    let g = c.self.inside in
    let f = c.args.form.0 in
    let k = c.get-class.result in
    subst (λ g. c.flip.result.0 ≡ class_of g f) c.self.view_is (chosen_class g.one g.leaves g.forms (rows_from g.pairs.items 0 g.ends) f k c.flip.result false c.get-class.ensures (grind (arith, c.if-form-eq0.false)) (c.flip.ensures ∙ xor-one k.0))

pub returns-else-form-eq0-clause-within : goal.returns-else-form-eq0-clause-within
returns-else-form-eq0-clause-within c =
    let g = c.self.inside in
    let f = c.args.form.0 in
    let k = c.get-class.result in
    let e = chosen_class g.one g.leaves g.forms (rows_from g.pairs.items 0 g.ends) f k c.flip.result false c.get-class.ensures (grind (arith, c.if-form-eq0.false)) (c.flip.ensures ∙ xor-one k.0) in
    class_within g.one g.leaves g.forms (rows_from g.pairs.items 0 g.ends) c.args.self.now f k c.flip.result c.self.invariant.graph c.self.view_is c.get-class.ensures e
