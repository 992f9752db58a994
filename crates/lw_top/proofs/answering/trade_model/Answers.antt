use Rattle.lw_map.specs.Options.{plain_options}
use Rattle.lw_top.proofs.TradeAnswers.{trade_given, trade_refused}
use Rattle.lw_top.proofs.answering.trade_model.Goals as goal

pub returns-in-Ok : goal.returns-in-Ok
returns-in-Ok c = trade_given (plain_options c.args.options) c.args.library c.args.model c.args.deadline c.in-Ok.netlist c.requires.model c.in-Ok.ensures.traded

pub returns-in-Err : goal.returns-in-Err
returns-in-Err c = rw c.of_map.ensures (trade_refused (plain_options c.args.options) c.args.library c.args.model c.args.deadline c.in-Err.fault c.in-Err.ensures.fault)
