use Rattle.std.proofs.Common.{arith}
use Rattle.lw_fixed.proofs.Texts.{is_shortest}
use Rattle.lw_fixed.proofs.laws.printed_is_shortest.Goals as goal

pub returns : goal.returns
returns c = is_shortest c.args.value.0 (omega arith)
