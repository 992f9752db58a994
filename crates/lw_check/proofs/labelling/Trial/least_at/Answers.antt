use Rattle.std.proofs.Common.{refl, sym, subst}
use Rattle.lw_laws.specs.Laws.{IsLeafCost}
use Rattle.lw_laws.specs.Rounds.{labels_in}
use Rattle.lw_check.specs.Failing.{Gives, IsMatchCost}
use Rattle.lw_check.specs.Least.{IsLeastOf}
use Rattle.lw_check.proofs.Lesser.{lesser_least}
use Rattle.lw_check.proofs.labelling.Trial.least_at.Goals as goal

pub returns-in-Some : goal.returns-in-Some
returns-in-Some g c =
    let t = c.args.self.now in
    let cost = g.C.Cost.costs t.given.now.by.cost.now in
    let labels = labels_in t.given.now.labels.now in
    let class = c.args.class.0 in (
      refl,
      subst (λ o. IsLeastOf (Gives t.given.now.graph.now cost t.given.now.by.pats.now labels class) o) (sym c.in-Some.ensures)
          (lesser_least (IsLeafCost t.given.now.graph.now cost class) (IsMatchCost t.given.now.graph.now cost t.given.now.by.pats.now labels class) c.least_input.result c.least_match-by_match.result c.least_input.ensures c.least_match-by_match.ensures),
    )

pub returns-in-None : goal.returns-in-None
returns-in-None g c =
    let t = c.args.self.now in
    let cost = g.C.Cost.costs t.given.now.by.cost.now in
    let labels = labels_in t.given.now.labels.now in
    let class = c.args.class.0 in
    subst (λ o. IsLeastOf (Gives t.given.now.graph.now cost t.given.now.by.pats.now labels class) o) (sym c.in-None.ensures)
    (lesser_least (IsLeafCost t.given.now.graph.now cost class) (IsMatchCost t.given.now.graph.now cost t.given.now.by.pats.now labels class) c.least_input.result c.least_match-by_match.result c.least_input.ensures c.least_match-by_match.ensures)
