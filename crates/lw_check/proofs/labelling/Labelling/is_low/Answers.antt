use Rattle.std.proofs.Common.{sym, subst, true≢false}
use Rattle.lw_laws.specs.Rounds.{labels_in}
use Rattle.lw_cost.specs.Values.{plain_match}
use Rattle.lw_check.specs.Failing.{IsAbove}
use Rattle.lw_check.proofs.Looking.{costs_once}
use Rattle.lw_check.proofs.labelling.Labelling.is_low.Goals as goal

pub returns-in-Some : goal.returns-in-Some
returns-in-Some g c = (
  λ t. (c.in-Some.value, c.in-Some.ensures, c.is_above.ensures.0 t),
  λ (d, by, above). c.is_above.ensures.1 (subst (λ n. IsAbove c.args.label n) (costs_once (g.C.Cost.costs c.args.self.now.by.cost.now) c.args.self.now.by.pats.now (labels_in c.args.self.now.labels.now) (plain_match c.args.found.now) d c.in-Some.value by c.in-Some.ensures) above),
)

pub returns-in-None : goal.returns-in-None
returns-in-None g c = (λ t. absurd (true≢false (sym t)), λ (d, by, above). absurd (c.in-None.ensures by.pin_labels by.have))
