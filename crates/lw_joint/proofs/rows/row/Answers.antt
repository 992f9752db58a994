use Rattle.std.proofs.Common.{subst}
use Rattle.lw_aig.specs.Aigs.{IsAig}
use Rattle.lw_sweep.proofs.Growing.{extended_both, extended_itself}
use Rattle.lw_joint.proofs.Columns.{row_begins, row_ends, row_goes_on}
use Rattle.lw_joint.proofs.rows.row.Goals as goal

pub columns-init : goal.columns-init
columns-init c = record {
  grown = extended_itself c.args.sweep.now;
  row = row_begins c.args.sweep.now (subst IsAig c.aig.ensures c.gates.ensures.kept) c.args.literals.now c.args.fanins.now c.args.row.now;
}

pub columns-preserved : goal.columns-preserved
columns-preserved c =
    let is = rw c.in-Some.is at c.in_ok-literal.ensures.literal in
    record {
      grown = extended_both c.args.sweep.now c.columns.sweep c.and_column.new.sweep c.columns.invariant.grown c.and_column.ensures.grows;
      row = row_goes_on c.columns.sweep c.and_column.new.sweep c.args.literals.now c.args.fanins.now c.args.row.now c.columns.i c.columns.all c.in-Some.literal c.and_column.ensures.grows c.requires.columns c.requires.known c.columns-test.true c.columns.invariant.row is;
    }

pub returns-clause-row : goal.returns-clause-row
returns-clause-row c = row_ends c.columns.sweep c.args.literals.now c.args.fanins.now c.args.row.now c.columns.i c.columns.all c.columns-test.false c.columns.invariant.row
