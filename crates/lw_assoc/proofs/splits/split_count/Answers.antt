use Rattle.std.proofs.Common.{arith, refl, ◌+◌}
use Rattle.lw_assoc.specs.Modes.{law_mode}
use Rattle.lw_assoc.proofs.Counts.{count_next}
use Rattle.lw_assoc.proofs.splits.split_count.Goals as goal

pub loop-b-preserved : goal.loop-b-preserved
loop-b-preserved c =
    let l = c.loop-b in
    record {
      count = count_next (law_mode c.args.mode) c.args.forms.now.bases l.b l.count c.splits_at.result (l.count + c.splits_at.result) (rw c.len-b-end.ensures.len at c.loop-b-test.true) l.invariant.count c.splits_at.ensures.splits refl;
      few = let a = l.invariant.few in let b = c.splits_at.ensures.few in omega arith;
    }
