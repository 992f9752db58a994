use Rattle.std.proofs.Common.{ℕ, ◌≡◌, ◌/◌, inr, true, refl, slice_set, sym, ap, subst, arith}
use Rattle.lw_label.specs.Orders.{ArePartsStill, IsStillAfter, VisitState}
use Rattle.lw_label.proofs.visits.Visits.keep.Goals as goal

pub returns : goal.returns
returns c =
    let graph = c.args.graph.now in
    let place = c.args.place in
    let parts = subst (λ (v : VisitState). (n : ℕ) → n / 2 ≡ place → ArePartsStill graph v.still n) (sym c.self.view_is) c.requires.parts in
    record {
      order = ap (λ (v : VisitState). v.order) c.self.view_is;
      places = ap (λ (v : VisitState). v.places) c.self.view_is;
      still = subst (λ (v : VisitState). IsStillAfter graph place v.still (slice_set c.self.inside.still.items place true)) c.self.view_is (inr (omega (arith, c.requires.place, ap (λ (v : VisitState). v.places) c.self.view_is, c.self.invariant.2), refl, parts));
    }
