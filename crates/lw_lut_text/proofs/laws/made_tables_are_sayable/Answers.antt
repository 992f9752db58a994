use Rattle.lw_lut_text.proofs.MadeTables.{made_are_sayable}
use Rattle.lw_lut_text.proofs.laws.made_tables_are_sayable.Goals as goal

pub returns : goal.returns
returns c = made_are_sayable
