use Rattle.lw_area.proofs.Cases.{first_chosen}
use Rattle.lw_area.proofs.recovering.Case.chosen.Goals as goal

pub returns-in-None : goal.returns-in-None
returns-in-None c = first_chosen c.args.self.now c.requires.case c.args.first c.requires.first
