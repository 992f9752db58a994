-- By the lemmas.
use Rattle.lw_label.proofs.CellLaws.{delay_patterns, delay_truths, patterns_of_cells}
use Rattle.lw_label.proofs.laws.library_patterns_are_of_cells.Goals as goal

pub returns-clause-cells : goal.returns-clause-cells
returns-clause-cells c = λ cells starts pats lib. patterns_of_cells cells lib pats

pub returns-clause-patterns : goal.returns-clause-patterns
returns-clause-patterns c = λ cells pats lib. delay_patterns cells lib pats

pub returns-clause-truths : goal.returns-clause-truths
returns-clause-truths c = λ cells pats lib. delay_truths cells lib pats
