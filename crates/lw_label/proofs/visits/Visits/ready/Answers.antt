use Rattle.std.proofs.Common.{ℕ, ◌≡◌, ◌<◌, ◌/◌, length, slice_index_or, sym, subst}
use Rattle.std.proofs.lemmas.List.Elements.{All-get_or}
use Rattle.lw_label.specs.Orders.{ArePartsStill, IsReady, VisitState}
use Rattle.lw_label.proofs.visits.Visits.ready.Goals as goal

pub returns : goal.returns
returns c =
    let graph = c.args.graph.now in
    let number = c.args.number in
    let place = c.index-place.result.now in
    let inside = c.self.inside in
    let below = subst (λ (v : VisitState). number < length v.order) (sym c.self.view_is) c.requires.number in
    let read = All-get_or (λ p. p < length inside.seen.items) inside.order.items number place below c.self.invariant.0.within in
    subst (λ (v : VisitState). IsReady graph v place) c.self.view_is (record {
      within = subst (λ p. p < length inside.seen.items) (sym c.index-place.ensures) read;
      moving = sym (subst (λ b. b ≡ slice_index_or inside.still.items place b) c.if-index.false c.index.ensures);
      parts = subst (λ still. (n : ℕ) → n / 2 ≡ place → ArePartsStill graph still n) c.deref.ensures.value (c.are_parts_still.ensures c.if-not-are_parts_still.false);
    })
