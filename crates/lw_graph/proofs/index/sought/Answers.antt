use Rattle.std.proofs.Common.{ℕ, ◌∙◌, [], Contains, sym, subst, true≢false, arith, below_more}
use Rattle.std.specs.Prelude.{slice_index_or}
use Rattle.lw_graph.specs.Rows.{rows_from}
use Rattle.lw_graph.proofs.Indexing.{none_past, row_is}
use Rattle.lw_graph.proofs.index.sought.Goals as goal

pub returns-then-is_among : goal.returns-then-is_among
returns-then-is_among c =
    let pairs = c.args.parts.now.pairs.now.items in
    let ends = c.args.parts.now.ends.now in
    let k = c.loop-class.class in
    subst (λ row. Contains row c.args.pair) (sym (row_is pairs ends k c.row.result.now (omega arith) c.row.ensures)) (c.is_among.ensures.0 c.if-is_among.true)

pub loop-class-preserved : goal.loop-class-preserved
loop-class-preserved c =
    let pairs = c.args.parts.now.pairs.now.items in
    let ends = c.args.parts.now.ends.now in
    let k = c.loop-class.class in
    let P : ℕ → Type 0 = λ j. Contains (slice_index_or (rows_from pairs 0 ends) j []) c.args.pair → ⊥ in
    below_more P k c.loop-class.invariant (λ h. let among = c.is_among.ensures.1 (subst (λ row. Contains row c.args.pair) (row_is pairs ends k c.row.result.now (omega arith) c.row.ensures) h) in true≢false (sym among ∙ c.if-is_among.false))

pub returns : goal.returns
returns c = λ k h.
    let lt = none_past c.args.parts.now.pairs.now.items c.args.parts.now.ends.now k c.args.pair h in
    c.loop-class.invariant k (omega arith) h
