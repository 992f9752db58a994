use Rattle.lw_map.proofs.Problems.{trade_for, traded_for}
use Rattle.lw_map.proofs.trading.of_choices.Goals as goal

pub traded-netlist-requires-clause-problem : goal.traded-netlist-requires-clause-problem
traded-netlist-requires-clause-problem c = c.in_ok-problem.ensures.is

pub returns-clause-traded : goal.returns-clause-traded
returns-clause-traded c =
    traded_for c.args.lib.now c.args.model.now c.args.choices.now c.in_ok-problem.problem c.in_ok-problem.ensures c.requires.choices c.args.deadline c.traded-netlist.result c.traded-netlist.ensures.traded

pub returns-clause-fault : goal.returns-clause-fault
returns-clause-fault c =
    trade_for c.args.lib.now c.args.model.now.network c.args.model.now.starts c.args.choices.now c.in_ok-problem.problem c.in_ok-problem.ensures c.args.deadline c.traded-netlist.result c.traded-netlist.ensures.fault
