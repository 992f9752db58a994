use Rattle.std.proofs.Common.{◌≡◌, ◌⊎◌, inr, sym, subst, ◌∙◌}
use Rattle.std.proofs.lemmas.List.{length-set}
use Rattle.std.proofs.lemmas.List.Elements.{All-set}
use Rattle.lw_bounds.specs.Numbers.{never}
use Rattle.lw_bounds.specs.Cuts.{cuts_state}
use Rattle.lw_match.specs.Cutting.{AreCertified, AreKnown}
use Rattle.lw_match.proofs.tops.Tops.are_sure_at.Goals as goal

pub returns-clause-known : goal.returns-clause-known
returns-clause-known g c =
    let costs = g.C.Cost.costs c.args.query.now.site.cost.now in
    let pats = c.args.query.now.site.pats.now in
    let gaps = (cuts_state c.args.query.now.site.cuts.now).gaps in
    let known = subst (AreKnown costs pats gaps) (sym c.self.view_is) c.requires.known in
    record {
      up_to = known.up_to;
      more = All-set (λ top. (top ≡ never) ⊎ AreCertified costs pats gaps top) c.self.inside.tops c.place_of-place.result c.args.top (inr (c.are_certified.ensures c.if-not-are_certified.false)) known.more;
    }

pub returns-clause-sure : goal.returns-clause-sure
returns-clause-sure g c = λ t. c.are_certified.ensures c.if-not-are_certified.false

pub invariant_of-self : goal.invariant_of-self
invariant_of-self g c = length-set c.self.inside.tops c.place_of-place.result c.args.top ∙ c.self.invariant
