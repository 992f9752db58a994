use Rattle.std.proofs.Common.{IfOk, ap, subst}
use Rattle.std.proofs.lemmas.Result.{IfErr-weaker, err_from_is_err_and}
use Rattle.lw_map.specs.Options.{Options, plain_options}
use Rattle.lw_map.specs.Trades.{IsTraded}
use Rattle.lw_map.proofs.Drives.{choice_trade_fault, trade_fault}
use Rattle.lw_map.proofs.trading.trade.Goals as goal

pub returns-in_err-choices-clause-fault : goal.returns-in_err-choices-clause-fault
returns-in_err-choices-clause-fault c =
    let p = err_from_is_err_and c.from_residual.result c.from_residual.ensures.1 in
    let model = c.args.model.now in
    rw (p.1, p.2) (choice_trade_fault (plain_options c.args.options) c.args.lib.now model.network model.starts c.args.deadline _ c.in_err-choices.ensures.fault)

pub returns-clause-traded : goal.returns-clause-traded
returns-clause-traded c =
    subst (λ (o : Options). IfOk c.of_choices-netlist.result (IsTraded c.args.deadline o c.args.lib.now c.args.model.now)) (ap plain_options c.in_ok-choices.ensures.choices.0) c.of_choices-netlist.ensures.traded

pub returns-clause-fault : goal.returns-clause-fault
returns-clause-fault c =
    let model = c.args.model.now in
    IfErr-weaker c.of_choices-netlist.result _ _ (trade_fault (plain_options c.args.options) c.args.lib.now model.network model.starts c.in_ok-choices.choices (ap plain_options c.in_ok-choices.ensures.choices.0) c.args.deadline) c.of_choices-netlist.ensures.fault
