use Rattle.std.proofs.Common.{◌≤◌, inl, refl, arith}
use Rattle.lw_curves.proofs.Adding.{pushed_waits, pushed_kept, pushed_only}
use Rattle.lw_curves.proofs.settling.push_due.Goals as goal

pub returns-then-time-horizon : goal.returns-then-time-horizon
returns-then-time-horizon c = record {
  horizon = refl;
  kept = λ t m w. w;
  only = λ t m w. inl w;
  here = λ le. absurd (omega (arith, le, c.if-time-horizon.true, c.horizon.ensures.horizon));
}

pub returns : goal.returns
returns c =
    let old = c.args.queue.now in
    let new = c.push.new.self in
    let within : c.args.time ≤ old.horizon = omega (arith, c.if-time-horizon.false, c.horizon.ensures.horizon) in
    record {
      horizon = c.in_ok-push.ensures.horizon;
      kept = pushed_kept old new c.args.time 0 c.args.number within c.in_ok-push.ensures.horizon c.in_ok-push.ensures.items;
      only = pushed_only old new c.args.time 0 c.args.number within c.in_ok-push.ensures.horizon c.in_ok-push.ensures.items;
      here = λ le. pushed_waits old new c.args.time 0 c.args.number within c.in_ok-push.ensures.horizon c.in_ok-push.ensures.items;
    }
