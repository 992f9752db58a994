use Rattle.std.proofs.Common.{sym, ◌∙◌}
use Rattle.lw_fixed.proofs.Numerals.{parsed, not_parsed}
use Rattle.lw_top.proofs.words.number_of.Goals as goal

pub returns-in-Ok : goal.returns-in-Ok
returns-in-Ok c = parsed 64 c.args.word.now c.in-Ok.number c.in-Ok.ensures.value.0 (sym c.is_numeral.ensures ∙ c.if-not-is_numeral.false)

pub returns-in-Err : goal.returns-in-Err
returns-in-Err c = not_parsed 64 c.args.word.now c.in-Err.ensures.value.0 (sym c.is_numeral.ensures ∙ c.if-not-is_numeral.false)
