use Rattle.std.proofs.Common.{ℕ, ◌≡◌, ◌/◌, subst}
use Rattle.lw_label.specs.Orders.{ArePartsStill, VisitState}
use Rattle.lw_label.proofs.visits.Visits.has_still_parts.Goals as goal

pub returns : goal.returns
returns c = λ t.
    let graph = c.args.graph.now in
    let place = c.args.place in
    subst (λ (v : VisitState). (n : ℕ) → n / 2 ≡ place → ArePartsStill graph v.still n) c.self.view_is (subst (λ still. (n : ℕ) → n / 2 ≡ place → ArePartsStill graph still n) c.deref.ensures.value (c.are_parts_still.ensures t))
