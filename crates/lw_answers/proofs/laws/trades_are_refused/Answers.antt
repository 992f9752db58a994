use Rattle.lw_answers.proofs.Untraded.{no_cover_to_trade, too_many_to_trade}
use Rattle.lw_answers.proofs.laws.trades_are_refused.Goals as goal

pub returns-clause-cover : goal.returns-clause-cover
returns-clause-cover c = λ words files deadline options cells model a read within answer. no_cover_to_trade words files deadline options cells model read within a answer

pub returns-clause-limit : goal.returns-clause-limit
returns-clause-limit c = λ words files deadline options cells model a read answer. too_many_to_trade words files deadline options cells model read a answer
