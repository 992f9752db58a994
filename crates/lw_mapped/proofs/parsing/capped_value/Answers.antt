use Rattle.std.proofs.Common.{arith}
use Rattle.lw_facts.proofs.Lists.{capped_step}
use Rattle.lw_laws.specs.Graphs.{most_classes}
use Rattle.lw_mapped.proofs.parsing.capped_value.Goals as goal

pub loop-digit-preserved : goal.loop-digit-preserved
loop-digit-preserved c =
    capped_step c.args.digits.now c.loop-digit.digit-index most_classes c.loop-digit.value c.from.result c.min-value.result c.requires (omega arith) c.loop-digit.invariant c.from.ensures c.min-value.ensures
