use Rattle.lw_answers.proofs.ReadsBack.{mapping_read_back, trade_read_back}
use Rattle.lw_answers.proofs.laws.written_netlists_read_back.Goals as goal

pub returns-clause-mapping : goal.returns-clause-mapping
returns-clause-mapping c = mapping_read_back

pub returns-clause-trade : goal.returns-clause-trade
returns-clause-trade c = trade_read_back
