use Rattle.lw_map.specs.Options.{plain_options}
use Rattle.lw_top.specs.Counts.{Counts}
use Rattle.lw_top.proofs.Giving.{choice_refused, counts_given}
use Rattle.lw_top.proofs.answering.count_model.Goals as goal

pub returns-in-Ok : goal.returns-in-Ok
returns-in-Ok c = counts_given (plain_options c.args.options) c.args.model.now c.in-Ok.counts c.in-Ok.ensures.counts

pub returns-in-Err : goal.returns-in-Err
returns-in-Err c =
    let options = plain_options c.args.options in
    rw c.of_map.ensures (choice_refused (Counts options c.args.model.now) options c.args.model.now.network (λ files r is. is) c.in-Err.fault c.in-Err.ensures.fault)
