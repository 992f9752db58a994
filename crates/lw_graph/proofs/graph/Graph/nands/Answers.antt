use Rattle.std.proofs.Common.{◌<◌, ◌≡◌, ◌^◌, ◌∙◌, [], length, refl, subst, sym, ap, All}
use Rattle.std.specs.Prelude.{slice_index_or}
use Rattle.lw_graph.specs.declared.pair.Pair.{Pair}
use Rattle.lw_graph.specs.Rows.{AreEnds, rows_from}
use Rattle.lw_graph.specs.Graphs.{flat_graph, plain_row}
use Rattle.lw_graph.proofs.Graphs.{class_count, row_from, row_there, row_within, row_rising}
use Rattle.lw_graph.proofs.graph.Graph.nands.Goals as goal

pub invariant_of-parts : goal.invariant_of-parts
invariant_of-parts c =
    let g = c.self.inside in
    record {
      cut = subst (AreEnds (length g.pairs.items) 0) (sym c.as_slice.ensures) c.self.invariant.cut;
      few = subst (λ n. n < 2 ^ 32) (class_count g.one g.leaves g.forms g.ends g.pairs.items (flat_graph g.one g.leaves g.forms g.ends g.pairs.items) refl ∙ sym (ap length c.as_slice.ensures)) c.self.invariant.graph.few;
    }

pub row-requires : goal.row-requires
row-requires c =
    let g = c.self.inside in
    let n = class_count g.one g.leaves g.forms g.ends g.pairs.items c.args.self.now c.self.view_is in
    subst (λ m. c.args.class.0 < m) (n ∙ sym (ap length c.as_slice.ensures)) c.requires

pub returns-clause-pairs : goal.returns-clause-pairs
returns-clause-pairs c =
    let g = c.self.inside in
    let n = class_count g.one g.leaves g.forms g.ends g.pairs.items c.args.self.now c.self.view_is in
    let there = row_there g.pairs.items g.ends c.as_slice.result.now c.args.class.0 c.row.result.now (subst (λ m. c.args.class.0 < m) n c.requires) c.as_slice.ensures c.row.ensures in
    subst (λ g. plain_row c.row.result.now ≡ slice_index_or g.pairs c.args.class.0 []) c.self.view_is (sym (row_from (rows_from g.pairs.items 0 g.ends) c.args.class.0 c.row.result.now there))

pub returns-clause-within : goal.returns-clause-within
returns-clause-within c =
    let g = c.self.inside in
    let n = class_count g.one g.leaves g.forms g.ends g.pairs.items c.args.self.now c.self.view_is in
    let there = row_there g.pairs.items g.ends c.as_slice.result.now c.args.class.0 c.row.result.now (subst (λ m. c.args.class.0 < m) n c.requires) c.as_slice.ensures c.row.ensures in
    subst (λ g. All (λ (p : Pair). (p.x.0 < length g.pairs) × (p.y.0 < length g.pairs)) c.row.result.now) c.self.view_is (row_within g.one g.leaves g.forms (rows_from g.pairs.items 0 g.ends) c.self.invariant.graph c.args.class.0 c.row.result.now there)

pub returns-clause-rising : goal.returns-clause-rising
returns-clause-rising c =
    let g = c.self.inside in
    let n = class_count g.one g.leaves g.forms g.ends g.pairs.items c.args.self.now c.self.view_is in
    let there = row_there g.pairs.items g.ends c.as_slice.result.now c.args.class.0 c.row.result.now (subst (λ m. c.args.class.0 < m) n c.requires) c.as_slice.ensures c.row.ensures in
    row_rising g.one g.leaves g.forms (rows_from g.pairs.items 0 g.ends) c.self.invariant.graph c.args.class.0 c.row.result.now there
