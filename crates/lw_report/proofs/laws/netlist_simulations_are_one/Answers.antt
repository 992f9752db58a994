use Rattle.lw_report.proofs.Once.{netlist_simulation_once}
use Rattle.lw_report.proofs.laws.netlist_simulations_are_one.Goals as goal

pub returns : goal.returns
returns c = netlist_simulation_once
