use Rattle.std.proofs.Common.{subst}
use Rattle.lw_curves.specs.Fronts.{FrontState, spots_of, IsLeastSpot}
use Rattle.lw_curves.proofs.pareto_fronts.Fronts.area_by.Goals as goal

pub returns : goal.returns
returns c =
    let here = subst (λ ps. IsLeastSpot (spots_of c.self.inside.links.classes ps) c.args.class.0 c.args.time c.area_by.result) c.as_slice.ensures.value c.area_by.ensures in
    subst (λ (s : FrontState). IsLeastSpot s.spots c.args.class.0 c.args.time c.area_by.result) c.self.view_is here
