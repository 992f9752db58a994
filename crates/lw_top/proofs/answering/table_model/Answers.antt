use Rattle.lw_map.specs.Options.{plain_options}
use Rattle.lw_top.specs.Tables.{Tabulates}
use Rattle.lw_top.proofs.Giving.{choice_refused, tables_given}
use Rattle.lw_top.proofs.answering.table_model.Goals as goal

pub returns-in-Ok : goal.returns-in-Ok
returns-in-Ok c = tables_given c.args.leaves (plain_options c.args.options) c.args.model c.in-Ok.net c.requires.model c.in-Ok.ensures.within c.in-Ok.ensures.tables

pub returns-in-Err : goal.returns-in-Err
returns-in-Err c =
    let options = plain_options c.args.options in
    rw c.of_map.ensures (choice_refused (Tabulates c.args.leaves options c.args.model) options c.args.model.network (λ files r is. is) c.in-Err.fault c.in-Err.ensures.fault)
