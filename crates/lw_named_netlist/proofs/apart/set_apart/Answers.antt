use Rattle.lw_named_netlist.proofs.Spared.{keeps-others}
use Rattle.lw_named_netlist.proofs.apart.set_apart.Goals as goal

pub returns : goal.returns
returns c = keeps-others c.args.apart.now c.insert.new.self c.in_ok-key.key c.args.name.now c.args.place c.in_ok-key.ensures.items c.in_ok-_before.ensures.updates
