use Rattle.std.proofs.Common.{arith}
use Rattle.lw_top.proofs.Prefix.{whole_cut}
use Rattle.lw_area.proofs.outcome.write_answer.Goals as goal

pub returns-in-Err-finish-clause-writes : goal.returns-in-Err-finish-clause-writes
returns-in-Err-finish-clause-writes g c =
    let w = c.in-Ok.ensures in
    record {
      grown = whole_cut _ _ _ _ w.ok c.in-Err-finish.ensures.bytes;
      cause = omega (arith, w.cause.later, c.in-Err-finish.ensures.cause.failed);
    }
