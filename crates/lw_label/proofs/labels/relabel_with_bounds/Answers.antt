use Rattle.lw_label.proofs.labels.relabel_with_bounds.Goals as goal

pub new-requires : goal.new-requires
new-requires g c = c.requires

pub new-requires-2 : goal.new-requires-2
new-requires-2 g c = c.requires

pub mark_all-requires : goal.mark_all-requires
mark_all-requires g c = record {
  cells = c.requires;
  unmarked = c.in_ok-room.ensures;
  known = c.in_ok-tops.ensures;
}

pub returns-clause-least : goal.returns-clause-least
returns-clause-least g c = c.mark_all.ensures.least

pub returns-clause-fits : goal.returns-clause-fits
returns-clause-fits g c = c.mark_all.ensures.fits

pub returns-clause-bounds : goal.returns-clause-bounds
returns-clause-bounds g c = c.mark_all.ensures.bounds
