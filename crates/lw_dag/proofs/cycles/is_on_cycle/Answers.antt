use Rattle.std.proofs.Common.{◌≡◌, ◌+◌, [], refl, sym, subst, ◌∙◌, arith, Contains}
use Rattle.std.proofs.lemmas.Bool.{false≢true}
use Rattle.std.proofs.lemmas.List.{get_or_default}
use Rattle.lw_dag.specs.Graphs.{fanins_at}
use Rattle.lw_dag.proofs.Searching.{placed_no_cycle}
use Rattle.lw_dag.proofs.Ranks.{clear_below}
use Rattle.lw_dag.proofs.cycles.is_on_cycle.Goals as goal

pub returns-then-heights-graph-ne0 : goal.returns-then-heights-graph-ne0
returns-then-heights-graph-ne0 c =
    (λ is. absurd (false≢true is), λ path. absurd (placed_no_cycle c.args.of.now.graph.now.inputs c.args.of.now.graph.now.nodes.now c.args.of.now.heights.now c.requires.heights.known c.args.p (omega arith) path))

pub returns-then-are_below : goal.returns-then-are_below
returns-then-are_below c =
    let graph = c.args.of.now.graph.now.nodes.now in
    let p = c.args.p in
    let fanins : c.as_slice.result.now ≡ fanins_at graph p = c.as_slice.ensures ∙ get_or_default graph p c.index-graph-p.result [] c.requires.within in
    (λ is. absurd (false≢true is), λ path. absurd (clear_below c.args.of.now.graph.now.inputs graph c.args.ranks.now c.requires.ranks p (λ k among. c.are_below.ensures c.if-are_below.true k (subst (λ ns. Contains ns (c.args.of.now.graph.now.inputs + k)) (sym fanins) among)) (c.args.of.now.graph.now.inputs + p) path refl))

pub bounds-heights-graph : goal.bounds-heights-graph
bounds-heights-graph c = omega (arith, c.requires.heights.known.one_each, c.requires.within)

pub bounds-ranks-p : goal.bounds-ranks-p
bounds-ranks-p c = omega (arith, c.requires.ranks.one_each, c.requires.within)

pub returns : goal.returns
returns c = c.leads_to_itself.ensures
