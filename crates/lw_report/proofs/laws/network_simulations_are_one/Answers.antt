use Rattle.lw_report.proofs.Once.{network_simulation_once}
use Rattle.lw_report.proofs.laws.network_simulations_are_one.Goals as goal

pub returns : goal.returns
returns c = network_simulation_once
