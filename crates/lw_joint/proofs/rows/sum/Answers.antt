use Rattle.std.proofs.Common.{[], ◌∙◌, refl, subst, sym}
use Rattle.std.proofs.lemmas.Option.{get_or_from_slice_get, slice_get_read}
use Rattle.lw_aig.specs.Aigs.{IsAig}
use Rattle.lw_sweep.proofs.Growing.{extended_both, extended_itself}
use Rattle.lw_joint.specs.Joint.{Computes, row_of}
use Rattle.lw_joint.proofs.Columns.{sum_begins, sum_ends, sum_goes_on}
use Rattle.lw_joint.proofs.rows.sum.Goals as goal

pub rows-init : goal.rows-init
rows-init c = record {
  grown = extended_itself c.args.sweep.now;
  sum = sum_begins c.args.sweep.now (subst IsAig c.aig.ensures c.gates.ensures.kept) c.args.literals.now c.args.fanins.now c.args.rows.now;
}

pub rows-preserved : goal.rows-preserved
rows-preserved c =
    let rows = c.args.rows.now in
    let i = c.rows.cube-index in
    let one = rw c.in-Some.is at c.in_ok-one.ensures.row in
    let is = rw c.in-Some-2.is at c.in_ok-literal.ensures.literal in
    let bytes = c.as_slice.ensures.bytes ∙ sym (get_or_from_slice_get rows i c.cube-item.result [] (slice_get_read rows _ i c.cube-item.result refl c.rows-test.true c.cube-item.is)) in
    record {
      grown = extended_both c.args.sweep.now c.rows.sweep c.or.new.sweep c.rows.invariant.grown (extended_both c.rows.sweep c.row.new.sweep c.or.new.sweep c.row.ensures.grows c.or.ensures.grows);
      sum = sum_goes_on c.rows.sweep c.row.new.sweep c.or.new.sweep c.args.literals.now c.args.fanins.now rows i c.rows.some c.in-Some.one c.in-Some-2.literal c.row.ensures.grows c.or.ensures.grows c.rows-test.true c.rows.invariant.sum (subst (λ r. Computes c.row.new.sweep c.args.literals.now (row_of c.args.fanins.now r) c.in-Some.one) bytes one) is;
    }

pub returns-clause-sum : goal.returns-clause-sum
returns-clause-sum c = sum_ends c.rows.sweep c.args.literals.now c.args.fanins.now c.args.rows.now c.rows.cube-index c.rows.some c.rows-test.false c.rows.invariant.sum
