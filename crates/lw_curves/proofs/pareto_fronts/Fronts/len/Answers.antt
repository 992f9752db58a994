use Rattle.std.proofs.Common.{◌≡◌, ◌∙◌, length, map, sym, subst}
use Rattle.lw_curves.specs.Backing.{spot_in}
use Rattle.lw_curves.specs.Fronts.{FrontState}
use Rattle.lw_curves.specs.Settling.{AreApart}
use Rattle.lw_curves.proofs.Fronting.{length_spots, held_spots}
use Rattle.lw_curves.proofs.pareto_fronts.Fronts.len.Goals as goal

pub returns : goal.returns
returns c =
    let classes = c.self.inside.links.classes in
    let points = c.self.inside.points.items in
    let here = c.len.ensures.len ∙ sym (length_spots classes points c.self.invariant.are.one_each) in
    record {
      len = subst (λ (s : FrontState). c.len.result ≡ length s.spots) c.self.view_is here;
      apart = subst (λ (s : FrontState). AreApart s.spots) c.self.view_is c.self.invariant.are.apart;
      spots = subst (λ (s : FrontState). map spot_in s.held ≡ s.spots) c.self.view_is (held_spots classes points);
    }
