use Rattle.std.proofs.Common.{◌≡◌, ◌∙◌, ◌<◌, ◌≤◌, Some, length, map, slice_get, slice_set, refl, sym, ap, subst, arith}
use Rattle.std.proofs.lemmas.List.{length-set}
use Rattle.std.proofs.lemmas.Option.{same_Some}
use Rattle.lw_curves.specs.Backing.{Held, IsHeld, IsHeldGained, spot_in}
use Rattle.lw_curves.specs.Fronts.{FrontState, spots_of, held_of, IsLeastOf}
use Rattle.lw_curves.specs.Settling.{Spot, spot, Has, HasAtMost, IsGained}
use Rattle.lw_choices.proofs.Lists.{read_at}
use Rattle.lw_curves.proofs.Fronting.{least_had, least_all, orders_gained, held_spots}
use Rattle.lw_curves.proofs.pareto_fronts.Fronts.gain.Goals as goal

pub returns-then-index-area-clause-tried : goal.returns-then-index-area-clause-tried
returns-then-index-area-clause-tried c =
    let spots = spots_of c.self.inside.links.classes c.self.inside.points.items in
    let least = c.self.inside.least.items in
    let lt = subst (λ (s : FrontState). c.args.class.0 < length s.least) (sym c.self.view_is) c.requires.class in
    let late = subst (λ (s : FrontState). (k : Spot) → Has s.spots k → k.time ≤ c.args.time) (sym c.self.view_is) c.requires.late in
    let is = c.self.invariant.least_is c.args.class.0 c.index.result.now (read_at least c.args.class.0 c.index.result.now lt c.index.ensures) in
    let had = least_had spots c.args.class.0 c.args.time c.args.area c.index.result.now is c.if-index-area.true c.requires.small late in
    (refl, subst (λ (s : FrontState). HasAtMost s.spots c.args.class.0 c.args.time c.args.area) c.self.view_is had)

pub put-requires : goal.put-requires
put-requires c =
    let least = c.self.inside.least.items in
    let lt = subst (λ (s : FrontState). c.args.class.0 < length s.least) (sym c.self.view_is) c.requires.class in
    let is = c.self.invariant.least_is c.args.class.0 c.index.result.now (read_at least c.args.class.0 c.index.result.now lt c.index.ensures) in
    record {
      class = omega (arith, lt, c.self.invariant.count);
      are = c.self.invariant.are;
      late = subst (λ (s : FrontState). (k : Spot) → Has s.spots k → k.time ≤ c.args.time) (sym c.self.view_is) c.requires.late;
      less = λ k has e. let low = is.low k has e in omega (arith, low, c.if-index-area.false);
      fresh = c.self.invariant.orders;
    }

pub invariant_of-self : goal.invariant_of-self
invariant_of-self c = record {
  are = c.in_err-put.ensures.are;
  count = c.in_err-put.ensures.count ∙ c.self.invariant.count;
  least_is = λ d a e. subst (λ xs. IsLeastOf xs d a) (sym c.in_err-put.ensures.err.spots) (c.self.invariant.least_is d a e);
  orders = subst (λ hs. (h : Held) → IsHeld hs h → h.order < c.self.inside.gains) (sym c.in_err-put.ensures.err.held) c.self.invariant.orders;
}

pub invariant_of-self-2 : goal.invariant_of-self-2
invariant_of-self-2 c =
    let spots = spots_of c.self.inside.links.classes c.self.inside.points.items in
    let next = spots_of c.put.new.links.classes c.put.new.points.items in
    let least = c.self.inside.least.items in
    let lt = subst (λ (s : FrontState). c.args.class.0 < length s.least) (sym c.self.view_is) c.requires.class in
    let is = c.self.invariant.least_is c.args.class.0 c.index.result.now (read_at least c.args.class.0 c.index.result.now lt c.index.ensures) in
    let below : (k : Spot) → Has spots k → k.class ≡ c.args.class.0 → c.args.area < k.area = (λ k has e. let low = is.low k has e in omega (arith, low, c.if-index-area.false)) in
    record {
      are = c.in_ok-put.ensures.are;
      count = c.in_ok-put.ensures.count ∙ (c.self.invariant.count ∙ sym (length-set least c.args.class.0 c.args.area));
      least_is = least_all spots next (spot c.args.class.0 c.args.time c.args.area) c.in_ok-put.ensures.put.gained least c.requires.small below c.self.invariant.least_is;
      orders = orders_gained (held_of c.self.inside.links.classes c.self.inside.points.items) (held_of c.put.new.links.classes c.put.new.points.items) _ c.self.inside.gains c.in_ok-put.ensures.put.held refl c.self.invariant.orders;
    }

pub returns-clause-tried : goal.returns-clause-tried
returns-clause-tried c =
    let least = c.self.inside.least.items in
    let spots = spots_of c.self.inside.links.classes c.self.inside.points.items in
    let next = spots_of c.put.new.links.classes c.put.new.points.items in
    let lt = subst (λ (s : FrontState). c.args.class.0 < length s.least) (sym c.self.view_is) c.requires.class in
    let at = read_at least c.args.class.0 c.index.result.now lt c.index.ensures in (
      subst (λ (s : FrontState). IsGained s.spots next (spot c.args.class.0 c.args.time c.args.area)) c.self.view_is c.in_ok-put.ensures.put.gained,
      ap (λ (s : FrontState). slice_set s.least c.args.class.0 c.args.area) c.self.view_is,
      λ area e.
          let here = subst (λ (s : FrontState). slice_get s.least c.args.class.0 ≡ Some area) (sym c.self.view_is) e in
          let same = same_Some c.index.result.now area (sym at ∙ here) in
          omega (arith, same, c.if-index-area.false),
      (c.self.inside.gains, subst (λ (s : FrontState). IsHeldGained s.held (held_of c.put.new.links.classes c.put.new.points.items) (record { spot = spot c.args.class.0 c.args.time c.args.area; choice = c.args.choice; order = c.self.inside.gains })) c.self.view_is c.in_ok-put.ensures.put.held),
    )

pub returns-then-index-area-clause-spots : goal.returns-then-index-area-clause-spots
returns-then-index-area-clause-spots c = subst (λ (s : FrontState). map spot_in s.held ≡ s.spots) c.self.view_is (held_spots c.self.inside.links.classes c.self.inside.points.items)

pub returns-then-self-clause-spots : goal.returns-then-self-clause-spots
returns-then-self-clause-spots c = subst (λ (s : FrontState). map spot_in s.held ≡ s.spots) c.self.view_is (held_spots c.self.inside.links.classes c.self.inside.points.items)

pub returns-in_err-put-clause-spots : goal.returns-in_err-put-clause-spots
returns-in_err-put-clause-spots c = subst (λ (s : FrontState). map spot_in s.held ≡ s.spots) c.self.view_is (held_spots c.self.inside.links.classes c.self.inside.points.items)

pub returns-clause-spots : goal.returns-clause-spots
returns-clause-spots c = subst (λ (s : FrontState). map spot_in s.held ≡ s.spots) c.self.view_is (held_spots c.self.inside.links.classes c.self.inside.points.items)
