use Rattle.lw_top.proofs.Giving.{drawing_refused, sizes_given}
use Rattle.lw_top.proofs.answering.draw.Goals as goal

pub big-requires : goal.big-requires
big-requires c = c.requires.most

pub returns-in-Ok : goal.returns-in-Ok
returns-in-Ok c = sizes_given c.args.seed c.args.count c.args.library.now c.in-Ok.sizes c.in-Ok.ensures.sizes

pub returns-in-Err : goal.returns-in-Err
returns-in-Err c = rw c.of_map.ensures (drawing_refused c.args.seed c.args.count c.args.library.now c.in-Err.fault c.in-Err.ensures.fault)
