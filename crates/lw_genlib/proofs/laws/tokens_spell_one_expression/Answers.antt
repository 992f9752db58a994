use Rattle.lw_genlib.proofs.Fronts.{one_spelled}
use Rattle.lw_genlib.proofs.laws.tokens_spell_one_expression.Goals as goal

pub returns : goal.returns
returns c = one_spelled
