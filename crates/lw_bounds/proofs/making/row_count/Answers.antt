use Rattle.std.proofs.Common.{ℕ, ◌+◌, ◌≡◌, ◌≤◌, refl, sym, subst, ◌∙◌, length, eqb-true, arith}
use Rattle.std.proofs.lemmas.Bool.{eqb-false}
use Rattle.lw_bounds.specs.Making.{row_count, rows_below}
use Rattle.lw_bounds.proofs.Rowing.{bare_row, filled_row, rows_next}
use Rattle.lw_bounds.proofs.making.row_count.Goals.{then-not-is_empty, else-not-is_empty}
use Rattle.lw_bounds.proofs.making.row_count.Goals as goal

pub loop-number-preserved : goal.loop-number-preserved
loop-number-preserved c =
    let l = c.loop-number in
    let before = l.invariant in
    let pairs = c.args.graph.now.pairs in
    let next = rows_next pairs l.number in
    elim c.if-not-is_empty.branch [
      | then-not-is_empty w ↦
          let one = filled_row c.nands.result.now _ c.nands.ensures.pairs (eqb-false (length c.nands.result.now) 0 (sym c.is_empty.ensures ∙ w.if-not-is_empty.true)) in
          record { is = omega (arith, w.rows-is, before.is, next, one); few = omega (arith, w.rows-is, before.few) }
      | else-not-is_empty w ↦
          let none = bare_row c.nands.result.now _ c.nands.ensures.pairs (eqb-true (length c.nands.result.now) 0 (sym c.is_empty.ensures ∙ w.if-not-is_empty.false)) in
          let zero_rows : row_count _ ≡ 0 = subst (λ ps. row_count ps ≡ 0) (sym none) refl in
          record { is = omega (arith, w.rows-is, before.is, next, zero_rows); few = omega (arith, w.rows-is, before.few) }
    ]
