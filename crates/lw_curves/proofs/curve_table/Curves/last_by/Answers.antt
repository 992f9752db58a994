use Rattle.lw_curves.proofs.Bisected.{last_of, no_last}
use Rattle.lw_curves.proofs.curve_table.Curves.last_by.Goals as goal

pub returns-in_default : goal.returns-in_default
returns-in_default c = no_last c.args.self.now.points c.args.class.0 c.args.delay c.args.time c.in_default.ensures

pub returns : goal.returns
returns c =
    last_of c.args.self.now.points c.args.class.0 c.in-Some.points.now c.args.delay c.args.time c.in-Some.ensures.points c.last_by.result (c.last_by.ensures c.in-Some.ensures.rising)
