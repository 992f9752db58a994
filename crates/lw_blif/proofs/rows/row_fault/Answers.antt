use Rattle.std.proofs.Common.{sym, ◌∙◌}
use Rattle.lw_blif.proofs.WordLists.{some-in_row}
use Rattle.lw_blif.proofs.rows.row_fault.Goals as goal

pub last_word-requires : goal.last_word-requires
last_word-requires c = some-in_row _ c.args.words.now (sym c.has_shape.ensures ∙ c.if-not-has_shape.false)
