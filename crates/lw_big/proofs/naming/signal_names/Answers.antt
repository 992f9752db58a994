use Rattle.lw_big.specs.Generated.{signal_names}
use Rattle.lw_big.proofs.Stepping.{names_more}
use Rattle.lw_big.proofs.naming.signal_names.Goals as goal

pub loop-k-init : goal.loop-k-init
unfolding signal_names
loop-k-init c = c.in_ok-names.ensures.items

pub loop-k-preserved : goal.loop-k-preserved
loop-k-preserved c =
    names_more c.args.first c.loop-k.k c.in_ok-signal_name.field-0 c.loop-k.names.items c.push.new.self.items c.loop-k.invariant c.in_ok-signal_name.ensures c.in_ok-push.ensures.items
