use Rattle.std.proofs.Common.{◌≡◌, ◌+◌, ◌≤◌, inl, refl, sym, ◌∙◌, subst, arith}
use Rattle.std.proofs.lemmas.Option.{same_Some}
use Rattle.lw_curves.specs.Settling.{IsLetWait}
use Rattle.lw_curves.proofs.Adding.{pushed_waits, pushed_kept, pushed_only}
use Rattle.lw_choices.proofs.Lists.{read_at}
use Rattle.lw_curves.proofs.settling.push_after.Goals as goal

pub returns-clause-due : goal.returns-clause-due
returns-clause-due c delay dt =
    let old = c.args.to.now in
    let new = c.push.new.self in
    let own = c.index-delay.result.now in
    let time = c.args.gain.time in
    let same : own ≡ delay = same_Some own delay (sym (read_at c.args.pin_groups.now.delays.items c.args.group own c.requires.group c.index-delay.ensures) ∙ dt) in
    let within : time + own ≤ old.horizon = omega (arith, c.if-delay-horizon.false, c.horizon.ensures.horizon, c.requires.time) in
    subst (λ d. IsLetWait old new (time + d) c.args.group) same (record {
      horizon = c.in_ok-push.ensures.horizon;
      kept = pushed_kept old new (time + own) c.args.gain.hint c.args.group within c.in_ok-push.ensures.horizon c.in_ok-push.ensures.items;
      only = pushed_only old new (time + own) c.args.gain.hint c.args.group within c.in_ok-push.ensures.horizon c.in_ok-push.ensures.items;
      here = λ le. pushed_waits old new (time + own) c.args.gain.hint c.args.group within c.in_ok-push.ensures.horizon c.in_ok-push.ensures.items;
    })

pub returns-then-delay-horizon-clause-due : goal.returns-then-delay-horizon-clause-due
returns-then-delay-horizon-clause-due c delay dt =
    let own = c.index-delay.result.now in
    let same : own ≡ delay = same_Some own delay (sym (read_at c.args.pin_groups.now.delays.items c.args.group own c.requires.group c.index-delay.ensures) ∙ dt) in
    record {
      horizon = refl;
      kept = λ t m w. w;
      only = λ t m w. inl w;
      here = λ le. absurd (omega (arith, le, same, c.if-delay-horizon.true, c.horizon.ensures.horizon, c.requires.time));
    }
