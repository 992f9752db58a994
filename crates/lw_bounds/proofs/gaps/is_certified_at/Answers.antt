use Rattle.std.proofs.Common.{◌≤◌, ◌∙◌, ap, subst, replicate}
use Rattle.std.proofs.lemmas.Bool.{leb-true}
use Rattle.std.proofs.Math.ListN.{set}
use Rattle.lw_bounds.proofs.gaps.is_certified_at.Goals as goal

pub returns-then-top-known_at : goal.returns-then-top-known_at
returns-then-top-known_at g c = λ t. c.known_at.ensures c.args.top c.if-top-known_at.true

pub returns : goal.returns
returns g c = λ t.
    let value = (g.C.Cost.costs c.args.cost.now).value c.args.cell.0 in
    let is = c.value_alone.ensures ∙ ap (λ n. value (set (replicate c.args.pins 0) c.args.pin n)) c.saturating_sub.ensures in
    subst (λ n. c.args.top ≤ n) is (leb-true c.args.top c.value_alone.result t)
