use Rattle.lw_lut_text.proofs.SaidCloses.{said_closes, said_draft}
use Rattle.lw_lut_text.proofs.laws.tables_close.Goals as goal

pub returns-clause-draft : goal.returns-clause-draft
returns-clause-draft c = λ n kept apart. said_draft n apart kept

pub returns-clause-closed : goal.returns-clause-closed
returns-clause-closed c = λ g most depths ports n is kept apart. said_closes g most depths n apart kept is.tables.each
