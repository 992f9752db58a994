use Rattle.std.proofs.Common.{arith}
use Rattle.lw_fixed.proofs.Texts.{reads_back}
use Rattle.lw_fixed.proofs.laws.printed_reads_back.Goals as goal

pub returns : goal.returns
returns c = reads_back c.args.value.0 (omega arith)
