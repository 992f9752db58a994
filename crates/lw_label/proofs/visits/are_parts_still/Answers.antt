use Rattle.lw_label.proofs.Still.{parts_of_place}
use Rattle.lw_label.proofs.visits.are_parts_still.Goals as goal

pub returns : goal.returns
returns c = λ t.
    parts_of_place c.args.graph.now c.args.place c.args.still.now (c.are_still_in.ensures c.if-not-are_still_in.false) (c.are_still_in-2.ensures t)
