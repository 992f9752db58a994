use Rattle.std.proofs.Common.{arith}
use Rattle.lw_top.proofs.Prefix.{whole_cut}
use Rattle.lw_top.proofs.outcome.written.Goals as goal

pub returns-in-Err-clause-writes : goal.returns-in-Err-clause-writes
returns-in-Err-clause-writes g c =
    let w = c.in-Err.ensures in
    (w.text, w.is, record { grown = w.taken_is.failed; cause = w.taken_is.cause.failed })

pub returns-in-Err-finish-clause-writes : goal.returns-in-Err-finish-clause-writes
returns-in-Err-finish-clause-writes g c =
    let w = c.in-Ok.ensures in (
      w.text,
      w.is,
      record {
        grown = whole_cut _ _ _ _ w.taken_is.ok c.in-Err-finish.ensures.bytes;
        cause = omega (arith, w.taken_is.cause.later, c.in-Err-finish.ensures.cause.failed);
      },
    )
