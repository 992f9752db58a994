use Rattle.std.proofs.Common.{arith}
use Rattle.lw_map.proofs.Drives.{one_root, judged}
use Rattle.lw_map.proofs.checking.over_choices.Goals as goal

pub check-verdict-requires-clause-of_cells : goal.check-verdict-requires-clause-of_cells
check-verdict-requires-clause-of_cells c = rw c.in_ok-problem.ensures.lib at c.in_ok-problem.ensures.is.of_cells

pub check-verdict-requires-clause-one_leaf : goal.check-verdict-requires-clause-one_leaf
check-verdict-requires-clause-one_leaf c = omega (arith, c.requires.choices.graph.written.leaf_count)

pub check-verdict-requires-clause-one_start : goal.check-verdict-requires-clause-one_start
check-verdict-requires-clause-one_start c = c.requires.model.starts.one_each

pub check-verdict-requires-clause-early : goal.check-verdict-requires-clause-early
check-verdict-requires-clause-early c = c.requires.model.starts.early

pub check-verdict-requires-clause-one_root : goal.check-verdict-requires-clause-one_root
check-verdict-requires-clause-one_root c = one_root c.args.model.now.network c.args.choices.now c.requires.choices

pub check-verdict-requires-clause-one_class : goal.check-verdict-requires-clause-one_class
check-verdict-requires-clause-one_class c = c.requires.fits.nets

pub check-verdict-requires-clause-labels : goal.check-verdict-requires-clause-labels
check-verdict-requires-clause-labels c = c.requires.fits.labels

pub returns : goal.returns
returns c = judged c.args.lib.now c.args.model.now c.args.mapped.now c.args.choices.now c.in_ok-problem.problem c.in_ok-problem.ensures c.requires.choices c.check-verdict.result c.check-verdict.ensures
