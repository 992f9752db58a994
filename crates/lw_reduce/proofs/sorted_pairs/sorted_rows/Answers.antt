use Rattle.std.proofs.Common.{ℕ, ◌++◌, ◌+◌, ◌≡◌, List, ◌∷◌, [], suc, ap, sym, subst₂, refl, ◌∙◌, length, slice_index, arith}
use Rattle.std.proofs.lemmas.List.{length-append}
use Rattle.lw_graph.specs.declared.pair.Pair.{Pair}
use Rattle.lw_graph.specs.Rows.{AreEnds, rows_from, start_at}
use Rattle.lw_graph.proofs.Graphs.{row_there}
use Rattle.lw_graph.proofs.Rows.{end_within, length-rows_from}
use Rattle.lw_reduce.proofs.SortedRows.{rows_all, rows_more}
use Rattle.lw_reduce.proofs.sorted_pairs.sorted_rows.Goals as goal

pub loop-class-init : goal.loop-class-init
loop-class-init c =
    let none = c.in_ok-rows.ensures in
    record {
      cut = subst₂ (λ (ps : List Pair) (es : List ℕ). AreEnds (length ps) 0 es) (sym none.0) (sym none.1) refl;
      count = subst₂ (λ (ps : List Pair) (es : List ℕ). length (rows_from ps 0 es) ≡ 0) (sym none.0) (sym none.1) refl;
      size = let e = ap length none.0 in omega arith;
      done = λ k lt. absurd (omega arith);
    }

pub add_row-requires-clause-few : goal.add_row-requires-clause-few
add_row-requires-clause-few c =
    let l = c.loop-class in
    let in' = end_within (length c.args.pairs.now) 0 c.args.ends.now l.class c.requires.ends (omega arith) in
    let v = ap length c.deref.ensures.value in
    let f = c.in_ok-fill_row.ensures.few in
    let z = c.pairs_at.ensures.size in
    let i = l.invariant.size in
    let few = c.requires.few in
    omega arith

pub loop-class-preserved : goal.loop-class-preserved
loop-class-preserved c =
    let l = c.loop-class in
    let pairs = c.args.pairs.now in
    let ends = c.args.ends.now in
    let row = c.fill_row.new.row.items in
    let old = rows_from l.rows.pairs.items 0 l.rows.ends in
    let new = c.in_ok-add_row.ensures.rows ∙ ap (λ row. old ++ row ∷ []) c.deref.ensures.value in
    let there = row_there pairs ends ends l.class c.pairs_at.result.now (omega arith) refl c.pairs_at.ensures.pairs in
    let next : l.class + 1 ≡ suc l.class = omega arith in
    let e : start_at 0 ends (l.class + 1) ≡ slice_index ends l.class = ap (start_at 0 ends) next in
    let v = ap length c.deref.ensures.value in
    let f = c.in_ok-fill_row.ensures.few in
    let z = c.pairs_at.ensures.size in
    let i = l.invariant.size in
    let s = c.in_ok-add_row.ensures.size in
    record {
      cut = c.in_ok-add_row.ensures.ends;
      count = ap length new ∙ (length-append old (row ∷ []) ∙ ap (λ k. k + 1) l.invariant.count);
      size = omega arith;
      done = rows_more (rows_from pairs 0 ends) old (rows_from c.add_row.new.rows.pairs.items 0 c.add_row.new.rows.ends) l.class c.pairs_at.result.now row l.invariant.count there c.in_ok-fill_row.ensures.row new l.invariant.done;
    }

pub returns : goal.returns
returns c = record {
  ends = c.loop-class.invariant.cut;
  count = let l = c.loop-class in
      let k = l.invariant.count in
      let n = length-rows_from l.rows.pairs.items 0 l.rows.ends in
      let t = c.loop-class-test.false in
      let e = l.auto.class-end in
      omega arith;
  rows = let l = c.loop-class in
      let k = l.invariant.count in
      let n = length-rows_from c.args.pairs.now 0 c.args.ends.now in
      let t = c.loop-class-test.false in
      let e = l.auto.class-end in
      rows_all (rows_from c.args.pairs.now 0 c.args.ends.now) (rows_from l.rows.pairs.items 0 l.rows.ends) l.class (omega arith) (omega arith) l.invariant.done;
}
