use Rattle.lw_words.proofs.Behind.{logical_lines-behind}
use Rattle.lw_words.proofs.laws.finished_lines_stay.Goals as goal

pub returns : goal.returns
returns c = logical_lines-behind
