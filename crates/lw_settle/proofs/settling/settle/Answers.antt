use Rattle.lw_settle.proofs.settling.settle.Goals as goal

pub settle_all-requires-clause-may : goal.settle_all-requires-clause-may
settle_all-requires-clause-may g c = record {
  of_cells = c.requires.of_cells;
  one_each = c.requires.one_each;
  leaves = c.requires.leaves;
  fresh = c.requires.fresh;
}
