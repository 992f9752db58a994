use Rattle.std.proofs.Common.{◌∙◌, sym, arith}
use Rattle.std.proofs.lemmas.Grind.{common_steps}
use Rattle.lw_graph.specs.Graphs.{flat_graph}
use Rattle.lw_graph.proofs.Graphs.{class_count}
use Rattle.lw_graph.proofs.graph.Graph.classes.Goals as goal

pub overflow_cast-result : goal.overflow_cast-result
overflow_cast-result c =
    let g = c.self.inside in
    let n = class_count g.one g.leaves g.forms g.ends g.pairs.items (flat_graph g.one g.leaves g.forms g.ends g.pairs.items) (λ i. flat_graph g.one g.leaves g.forms g.ends g.pairs.items) in
    let few = c.self.invariant.graph.few in
    grind (arith, common_steps, n, few, c.len.ensures)

pub returns-clause-classes : goal.returns-clause-classes
returns-clause-classes c =
    let g = c.self.inside in
    c.len.ensures ∙ sym (class_count g.one g.leaves g.forms g.ends g.pairs.items c.args.self.now c.self.view_is)
