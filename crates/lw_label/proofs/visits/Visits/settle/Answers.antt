use Rattle.std.proofs.Common.{ℕ, ◌≡◌, ◌/◌, inl, refl, subst}
use Rattle.lw_label.specs.Orders.{ArePartsStill, VisitState}
use Rattle.lw_label.proofs.visits.Visits.settle.Goals as goal

pub keep-requires-clause-parts : goal.keep-requires-clause-parts
keep-requires-clause-parts c =
    let graph = c.args.graph.now in
    let place = c.args.place in
    subst (λ (v : VisitState). (n : ℕ) → n / 2 ≡ place → ArePartsStill graph v.still n) c.self.view_is (subst (λ still. (n : ℕ) → n / 2 ≡ place → ArePartsStill graph still n) c.deref.ensures.value (c.are_parts_still.ensures c.if-are_parts_still.true))

pub returns-then-are_parts_still : goal.returns-then-are_parts_still
returns-then-are_parts_still c = c.keep.ensures

pub returns-else-are_parts_still : goal.returns-else-are_parts_still
returns-else-are_parts_still c = record { order = refl; places = refl; still = inl refl }
