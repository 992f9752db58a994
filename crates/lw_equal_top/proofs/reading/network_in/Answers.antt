use Rattle.lw_equal_top.proofs.Sided.{network_source}
use Rattle.lw_equal_top.proofs.reading.network_in.Goals as goal

pub returns-clause-source : goal.returns-clause-source
returns-clause-source c = network_source c.args.library.now c.in_ok-model.model c.in_ok-model.ensures.model
