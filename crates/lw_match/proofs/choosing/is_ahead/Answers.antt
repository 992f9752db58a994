use Rattle.std.proofs.Common.{◌<◌, sym, subst}
use Rattle.lw_match.proofs.Picks.{ahead_of}
use Rattle.lw_match.proofs.choosing.is_ahead.Goals as goal

pub returns-then-old-pattern : goal.returns-then-old-pattern
returns-then-old-pattern c = λ t b last same.
    let old = c.in-Some.old in
    (old, c.in-Some.is, ahead_of old c.args.bound b (c.is_before.ensures.0 t) last (subst (λ n. old.found.pat.0 < n) (sym same) c.if-old-pattern.true))
