use Rattle.lw_joint.proofs.Telling.{nets_equal}
use Rattle.lw_joint.proofs.Whole.{have_values_later}
use Rattle.lw_joint.proofs.laws.equal_literals_tell.Goals as goal

pub returns-clause-nets : goal.returns-clause-nets
returns-clause-nets c = λ gates one other ones others lits lits' k m d aig first second have have' low low' equal. nets_equal gates one other ones others lits lits' k m d aig first second have have' low low' equal

pub returns-clause-later : goal.returns-clause-later
returns-clause-later c = λ old new net inputs lits extended have. have_values_later old new net inputs lits extended have
