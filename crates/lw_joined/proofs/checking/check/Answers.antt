use Rattle.std.proofs.Common.{arith}
use Rattle.lw_label.proofs.CellLaws.{patterns_of_cells}
use Rattle.lw_joined.proofs.Verdicts.{judged, one_root}
use Rattle.lw_joined.proofs.checking.check.Goals as goal

pub check-verdict-requires-clause-of_cells : goal.check-verdict-requires-clause-of_cells
check-verdict-requires-clause-of_cells c =
    patterns_of_cells c.args.lib.now c.len.ensures.kept c.in_ok-pats.pats c.in_ok-pats.ensures.list c.in_ok-pats.ensures.pins

pub check-verdict-requires-clause-one_leaf : goal.check-verdict-requires-clause-one_leaf
check-verdict-requires-clause-one_leaf c = omega (arith, c.requires.joined.graph.written.leaf_count)

pub check-verdict-requires-clause-one_start : goal.check-verdict-requires-clause-one_start
check-verdict-requires-clause-one_start c = c.requires.model.starts.one_each

pub check-verdict-requires-clause-early : goal.check-verdict-requires-clause-early
check-verdict-requires-clause-early c = c.requires.model.starts.early

pub check-verdict-requires-clause-one_root : goal.check-verdict-requires-clause-one_root
check-verdict-requires-clause-one_root c = one_root c.args.model.now.network c.args.joined.now c.requires.joined

pub check-verdict-requires-clause-one_class : goal.check-verdict-requires-clause-one_class
check-verdict-requires-clause-one_class c = c.requires.fits.nets

pub check-verdict-requires-clause-labels : goal.check-verdict-requires-clause-labels
check-verdict-requires-clause-labels c = c.requires.fits.labels

pub returns : goal.returns
returns c = judged c.args.lib.now c.args.model.now c.args.joined.now c.args.mapped.now c.in_ok-pats.pats c.in_ok-pats.ensures.list c.check-verdict.result c.check-verdict.ensures
