use Rattle.lw_graph.specs.Rows.{rows_from}
use Rattle.std.proofs.Common.{◌<◌, length, subst}
use Rattle.lw_graph.proofs.Graphs.{leaf_within}
use Rattle.lw_graph.proofs.graph.Graph.leaf.Goals as goal

pub returns-clause-within : goal.returns-clause-within
returns-clause-within c =
    let g = c.self.inside in
    subst (λ g. c.get.result.0 < length g.pairs) c.self.view_is (leaf_within g.one g.leaves g.forms (rows_from g.pairs.items 0 g.ends) c.self.invariant.graph c.args.input c.get.result c.get.ensures)
