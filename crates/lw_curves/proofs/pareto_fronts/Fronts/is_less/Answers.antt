use Rattle.std.proofs.Common.{◌<◌, ◌≤◌, length, sym, subst}
use Rattle.lw_curves.specs.Fronts.{FrontState, spots_of}
use Rattle.lw_curves.specs.Settling.{Spot, Has, HasAtMost}
use Rattle.lw_choices.proofs.Lists.{read_at}
use Rattle.lw_curves.proofs.Fronting.{least_had}
use Rattle.lw_curves.proofs.pareto_fronts.Fronts.is_less.Goals as goal

pub returns-then-least-area : goal.returns-then-least-area
returns-then-least-area c =
    let spots = spots_of c.self.inside.links.classes c.self.inside.points.items in
    let least = c.self.inside.least.items in
    let lt = subst (λ (s : FrontState). c.args.class.0 < length s.least) (sym c.self.view_is) c.requires.class in
    let late = subst (λ (s : FrontState). (k : Spot) → Has s.spots k → k.time ≤ c.args.time) (sym c.self.view_is) c.requires.late in
    let is = c.self.invariant.least_is c.args.class.0 c.index-least.result.now (read_at least c.args.class.0 c.index-least.result.now lt c.index-least.ensures) in
    let had = least_had spots c.args.class.0 c.args.time c.args.area c.index-least.result.now is c.if-least-area.true c.requires.small late in
    subst (λ (s : FrontState). HasAtMost s.spots c.args.class.0 c.args.time c.args.area) c.self.view_is had
