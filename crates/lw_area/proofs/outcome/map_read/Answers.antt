use Rattle.lw_area.proofs.outcome.map_read.Goals as goal

pub returns-in-Ok : goal.returns-in-Ok
returns-in-Ok g c = c.in-Ok.ensures.made
