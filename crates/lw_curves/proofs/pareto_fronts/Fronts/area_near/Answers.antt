use Rattle.std.proofs.Common.{Some, subst}
use Rattle.lw_curves.specs.Fronts.{FrontState, spots_of, IsLeastSpot}
use Rattle.lw_curves.proofs.pareto_fronts.Fronts.area_near.Goals as goal

pub returns-in-Some : goal.returns-in-Some
returns-in-Some c =
    let here = subst (λ ps. IsLeastSpot (spots_of c.self.inside.links.classes ps) c.args.class.0 c.args.time (Some c.in-Some.area)) c.as_slice-points.ensures.value c.in-Some.ensures in
    subst (λ (s : FrontState). IsLeastSpot s.spots c.args.class.0 c.args.time (Some c.in-Some.area)) c.self.view_is here

pub returns : goal.returns
returns c =
    let here = subst (λ ps. IsLeastSpot (spots_of c.self.inside.links.classes ps) c.args.class.0 c.args.time c.area_by.result) c.as_slice-points.ensures.value c.area_by.ensures in
    subst (λ (s : FrontState). IsLeastSpot s.spots c.args.class.0 c.args.time c.area_by.result) c.self.view_is here
