use Rattle.std.proofs.Common.{ap, ◌∙◌}
use Rattle.lw_words.specs.Lines.{LogicalLine}
use Rattle.lw_words.specs.Words.{first_word}
use Rattle.lw_words.proofs.Shared.{first_word-get}
use Rattle.lw_blif.proofs.naming.first_word.Goals as goal

pub returns : goal.returns
returns c = first_word-get c.line.inside.words c.get.result.now c.get.ensures.word ∙ ap (λ (l : LogicalLine). first_word l.words) c.line.view_is
