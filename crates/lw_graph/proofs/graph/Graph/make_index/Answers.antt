use Rattle.std.proofs.Common.{◌<◌, ◌^◌, ◌∙◌, length, refl, subst, sym, ap}
use Rattle.lw_graph.specs.Graphs.{flat_graph}
use Rattle.lw_graph.specs.Rows.{AreEnds}
use Rattle.lw_graph.proofs.Graphs.{class_count}
use Rattle.lw_graph.proofs.graph.Graph.make_index.Goals as goal

pub invariant_of-parts : goal.invariant_of-parts
invariant_of-parts c =
    let g = c.self.inside in
    record {
      cut = subst (AreEnds (length g.pairs.items) 0) (sym c.as_slice.ensures) c.self.invariant.cut;
      few = subst (λ n. n < 2 ^ 32) (class_count g.one g.leaves g.forms g.ends g.pairs.items (flat_graph g.one g.leaves g.forms g.ends g.pairs.items) refl ∙ sym (ap length c.as_slice.ensures)) c.self.invariant.graph.few;
    }
