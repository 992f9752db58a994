use Rattle.std.proofs.Common.{ℕ, ◌<◌, ◌^◌, ◌∙◌, List, Contains, length, refl, subst, sym, ap}
use Rattle.std.specs.Prelude.{MatchOption}
use Rattle.lw_pool.specs.declared.id.ClassId.{ClassId}
use Rattle.lw_graph.specs.declared.index.Entry.{Entry}
use Rattle.lw_graph.specs.declared.pair.Pair.{Pair}
use Rattle.lw_graph.specs.Graphs.{flat_graph}
use Rattle.lw_graph.specs.Index.{entry_of}
use Rattle.lw_graph.specs.Ordered.{ordered_pair}
use Rattle.lw_graph.specs.Rows.{AreEnds, rows_from}
use Rattle.lw_graph.proofs.Graphs.{class_count}
use Rattle.lw_graph.proofs.Holding.{IsInRow, row_listed, sought_holds, sought_none, sought_within}
use Rattle.lw_graph.proofs.graph.Graph.holder.Goals as goal

pub invariant_of-parts : goal.invariant_of-parts
invariant_of-parts c =
    let g = c.self.inside in
    record {
      cut = subst (AreEnds (length g.pairs.items) 0) (sym c.as_slice.ensures) c.self.invariant.cut;
      few = subst (λ n. n < 2 ^ 32) (class_count g.one g.leaves g.forms g.ends g.pairs.items (flat_graph g.one g.leaves g.forms g.ends g.pairs.items) refl ∙ sym (ap length c.as_slice.ensures)) c.self.invariant.graph.few;
    }

pub returns-then-self-clause-some : goal.returns-then-self-clause-some
returns-then-self-clause-some c =
    let g = c.self.inside in
    let x = c.args.x.0 in
    let y = c.args.y.0 in
    let result = c.found.result in
    let pair = c.ordered-pair.result in
    let lists = c.self.invariant.listed c.if-self.true in
    let there : MatchOption result ((k : ClassId) → Contains g.index.items (entry_of k pair) → ⊥) (λ k. Contains g.index.items (entry_of k pair)) = subst (λ (es : List Entry). MatchOption result ((k : ClassId) → Contains es (entry_of k pair) → ⊥) (λ k. Contains es (entry_of k pair))) c.deref.ensures.value c.found.ensures in
    let found : IsInRow (rows_from g.pairs.items 0 g.ends) (ordered_pair x y) result = row_listed (rows_from g.pairs.items 0 g.ends) (ordered_pair x y) g.index.items result lists (subst (λ (p : Pair). MatchOption result ((k : ClassId) → Contains g.index.items (entry_of k p) → ⊥) (λ k. Contains g.index.items (entry_of k p))) c.ordered-pair.ensures there) in
    sought_holds g.one g.leaves g.forms g.ends g.pairs.items c.args.self.now c.self.invariant.graph c.self.view_is x y result found

pub returns-then-self-clause-none : goal.returns-then-self-clause-none
returns-then-self-clause-none c =
    let g = c.self.inside in
    let x = c.args.x.0 in
    let y = c.args.y.0 in
    let result = c.found.result in
    let pair = c.ordered-pair.result in
    let lists = c.self.invariant.listed c.if-self.true in
    let there : MatchOption result ((k : ClassId) → Contains g.index.items (entry_of k pair) → ⊥) (λ k. Contains g.index.items (entry_of k pair)) = subst (λ (es : List Entry). MatchOption result ((k : ClassId) → Contains es (entry_of k pair) → ⊥) (λ k. Contains es (entry_of k pair))) c.deref.ensures.value c.found.ensures in
    let found : IsInRow (rows_from g.pairs.items 0 g.ends) (ordered_pair x y) result = row_listed (rows_from g.pairs.items 0 g.ends) (ordered_pair x y) g.index.items result lists (subst (λ (p : Pair). MatchOption result ((k : ClassId) → Contains g.index.items (entry_of k p) → ⊥) (λ k. Contains g.index.items (entry_of k p))) c.ordered-pair.ensures there) in
    sought_none g.one g.leaves g.forms g.ends g.pairs.items c.args.self.now c.self.invariant.graph c.self.view_is x y result found

pub returns-then-self-clause-within : goal.returns-then-self-clause-within
returns-then-self-clause-within c =
    let g = c.self.inside in
    let x = c.args.x.0 in
    let y = c.args.y.0 in
    let result = c.found.result in
    let pair = c.ordered-pair.result in
    let lists = c.self.invariant.listed c.if-self.true in
    let there : MatchOption result ((k : ClassId) → Contains g.index.items (entry_of k pair) → ⊥) (λ k. Contains g.index.items (entry_of k pair)) = subst (λ (es : List Entry). MatchOption result ((k : ClassId) → Contains es (entry_of k pair) → ⊥) (λ k. Contains es (entry_of k pair))) c.deref.ensures.value c.found.ensures in
    let found : IsInRow (rows_from g.pairs.items 0 g.ends) (ordered_pair x y) result = row_listed (rows_from g.pairs.items 0 g.ends) (ordered_pair x y) g.index.items result lists (subst (λ (p : Pair). MatchOption result ((k : ClassId) → Contains g.index.items (entry_of k p) → ⊥) (λ k. Contains g.index.items (entry_of k p))) c.ordered-pair.ensures there) in
    sought_within g.one g.leaves g.forms g.ends g.pairs.items c.args.self.now c.self.invariant.graph c.self.view_is x y result found

pub returns-else-self-clause-some : goal.returns-else-self-clause-some
returns-else-self-clause-some c =
    let g = c.self.inside in
    let x = c.args.x.0 in
    let y = c.args.y.0 in
    let result = c.sought.result in
    let pair = c.ordered-pair.result in
    let there : IsInRow (rows_from g.pairs.items 0 g.ends) pair result = subst (λ (es : List ℕ). IsInRow (rows_from g.pairs.items 0 es) pair result) c.as_slice.ensures c.sought.ensures in
    let found : IsInRow (rows_from g.pairs.items 0 g.ends) (ordered_pair x y) result = subst (λ (p : Pair). IsInRow (rows_from g.pairs.items 0 g.ends) p result) c.ordered-pair.ensures there in
    sought_holds g.one g.leaves g.forms g.ends g.pairs.items c.args.self.now c.self.invariant.graph c.self.view_is x y result found

pub returns-else-self-clause-none : goal.returns-else-self-clause-none
returns-else-self-clause-none c =
    let g = c.self.inside in
    let x = c.args.x.0 in
    let y = c.args.y.0 in
    let result = c.sought.result in
    let pair = c.ordered-pair.result in
    let there : IsInRow (rows_from g.pairs.items 0 g.ends) pair result = subst (λ (es : List ℕ). IsInRow (rows_from g.pairs.items 0 es) pair result) c.as_slice.ensures c.sought.ensures in
    let found : IsInRow (rows_from g.pairs.items 0 g.ends) (ordered_pair x y) result = subst (λ (p : Pair). IsInRow (rows_from g.pairs.items 0 g.ends) p result) c.ordered-pair.ensures there in
    sought_none g.one g.leaves g.forms g.ends g.pairs.items c.args.self.now c.self.invariant.graph c.self.view_is x y result found

pub returns-else-self-clause-within : goal.returns-else-self-clause-within
returns-else-self-clause-within c =
    let g = c.self.inside in
    let x = c.args.x.0 in
    let y = c.args.y.0 in
    let result = c.sought.result in
    let pair = c.ordered-pair.result in
    let there : IsInRow (rows_from g.pairs.items 0 g.ends) pair result = subst (λ (es : List ℕ). IsInRow (rows_from g.pairs.items 0 es) pair result) c.as_slice.ensures c.sought.ensures in
    let found : IsInRow (rows_from g.pairs.items 0 g.ends) (ordered_pair x y) result = subst (λ (p : Pair). IsInRow (rows_from g.pairs.items 0 g.ends) p result) c.ordered-pair.ensures there in
    sought_within g.one g.leaves g.forms g.ends g.pairs.items c.args.self.now c.self.invariant.graph c.self.view_is x y result found
