use Rattle.std.proofs.Common.{arith}
use Rattle.lw_facts.proofs.Lists.{capped_step}
use Rattle.lw_verilog.specs.Windows.{most_flagged}
use Rattle.lw_verilog.proofs.taken.capped_value.Goals as goal

pub loop-digit-preserved : goal.loop-digit-preserved
loop-digit-preserved c =
    capped_step c.args.digits.now c.loop-digit.digit-index most_flagged c.loop-digit.value c.from.result c.min-value.result c.requires (omega arith) c.loop-digit.invariant c.from.ensures c.min-value.ensures
