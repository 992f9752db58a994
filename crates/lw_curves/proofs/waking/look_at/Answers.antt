use Rattle.std.proofs.Common.{ℕ, ◌≡◌, ◌<◌, ◌⊎◌, inl, inr, length, refl, arith}
use Rattle.lw_queue.specs.Queues.{Waits}
use Rattle.lw_curves.proofs.Adding.{pushed_kept, pushed_only, pushed_waits}
use Rattle.lw_curves.proofs.waking.look_at.Goals as goal

pub returns-then-may_give-clause-looked : goal.returns-then-may_give-clause-looked
returns-then-may_give-clause-looked c g pats starts us =
    let old = c.args.queue.now in
    let new = c.push.new.self in
    let within = c.requires.time in
    let same = c.in_ok-push.ensures.horizon in
    let items = c.in_ok-push.ensures.items in
    record {
      horizon = same;
      kept = pushed_kept old new c.args.time 0 c.args.number within same items;
      only = λ t m w. from t m (pushed_only old new c.args.time 0 c.args.number within same items t m w);
      done = inl (pushed_waits old new c.args.time 0 c.args.number within same items);
    }
  where
    low : c.args.number < length c.args.at.now.setup.now.rows.now
    low = omega (arith, c.may_give.ensures.listed c.if-may_give.true)

    from : (t m : ℕ) → Waits c.args.queue.now t m ⊎ ((t ≡ c.args.time) × (m ≡ c.args.number)) → Waits c.args.queue.now t m ⊎ ((t ≡ c.args.time) × (m < length c.args.at.now.setup.now.rows.now))
    from t m (inl w) = inl w
    from t m (inr (e, f)) = inr (e, omega (arith, f, low))

pub returns-clause-looked : goal.returns-clause-looked
returns-clause-looked c g pats starts us = record {
  horizon = refl;
  kept = λ t m w. w;
  only = λ t m w. inl w;
  done = inr (c.may_give.ensures.no_more c.if-may_give.false g pats starts us);
}
