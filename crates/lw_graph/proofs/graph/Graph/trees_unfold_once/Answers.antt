use Rattle.lw_graph.specs.Rows.{rows_from}
use Rattle.std.proofs.Common.{subst}
use Rattle.lw_laws.specs.Laws.{TreesUnfoldOnce}
use Rattle.lw_graph.specs.Graphs.{plain_graph}
use Rattle.lw_graph.proofs.graph.Graph.trees_unfold_once.Goals as goal

pub returns : goal.returns
returns c =
    let g = c.self.inside in
    subst TreesUnfoldOnce c.self.view_is (c.tree_unfolds_once.ensures (plain_graph g.one g.leaves g.forms (rows_from g.pairs.items 0 g.ends)) c.self.invariant.graph.once)
