use Rattle.lw_match.proofs.Picks.{improves_lists}
use Rattle.lw_match.proofs.choosing.pick_near.Goals as goal

pub returns : goal.returns
returns g c =
    let q = c.args.query.now in
    improves_lists g.C.Cost.costs q c.args.pick.top c.args.best.now c.pick_list.new.best c.pick_list-2.new.best c.pick_list-3.new.best c.pick_list.ensures c.pick_list-2.ensures c.pick_list-3.ensures
