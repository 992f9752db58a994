use Rattle.lw_label.proofs.CellLaws.{patterns_of_cells}
use Rattle.lw_test_matches.proofs.libraries.patterns_of.Goals as goal

pub returns : goal.returns
returns c = patterns_of_cells c.args.lib.now c.len.ensures.kept c.in_ok-pats.pats c.in_ok-pats.ensures.list c.in_ok-pats.ensures.pins
