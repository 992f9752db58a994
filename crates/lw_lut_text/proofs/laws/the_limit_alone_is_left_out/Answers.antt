use Rattle.lw_lut_text.proofs.LimitAlone.{limit_alone, free_of_faults}
use Rattle.lw_lut_text.proofs.laws.the_limit_alone_is_left_out.Goals as goal

pub returns-clause-unbroken : goal.returns-clause-unbroken
returns-clause-unbroken c = free_of_faults

pub returns-clause-limited : goal.returns-clause-limited
returns-clause-limited c = limit_alone
