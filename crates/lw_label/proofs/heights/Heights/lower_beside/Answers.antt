use Rattle.std.proofs.Common.{◌≡◌, ◌/◌, ◌⊎◌, ◌∙◌, false, None, slice_index_or, ap, sym, subst₂, arith}
use Rattle.lw_laws.specs.Flip.{flip}
use Rattle.lw_laws.proofs.Flips.{xor-one, half-flip}
use Rattle.lw_label.specs.Heights.{IsNoPin}
use Rattle.lw_label.proofs.Still.{flip_apart, stays_reached}
use Rattle.lw_label.proofs.heights.Heights.lower_beside.Goals as goal

pub lower-visit-requires-clause-place : goal.lower-visit-requires-clause-place
lower-visit-requires-clause-place g c = c.requires.place

pub lower-visit-requires-clause-may : goal.lower-visit-requires-clause-may
lower-visit-requires-clause-may g c = c.requires.may

pub mark-other-requires : goal.mark-other-requires
mark-other-requires g c =
    let class = c.args.class.0 in
    let at : c.flip.result.0 / 2 ≡ class / 2 = ap (λ n. n / 2) (c.flip.ensures ∙ xor-one class) ∙ half-flip class in
    omega (arith, c.requires.place, at, c.lower-visit.ensures.search.heights.one_each)

pub mark-requires : goal.mark-requires
mark-requires g c =
    omega (arith, c.requires.place, c.lower-visit.ensures.search.heights.one_each)

pub returns : goal.returns
returns g c =
    let given = c.args.given.now in
    let task = given.task.now in
    let costs = g.C.Cost.costs task.cost.now in
    let class = c.args.class.0 in
    let visit = c.lower-visit in
    let old = c.args.self.now.marks.items in
    let new = visit.new.self.marks.items in
    let start = visit.ensures.search.given in
    let other : c.flip.result.0 ≡ flip class = c.flip.ensures ∙ xor-one class in
    let beside = c.mark-other.ensures ∙ ap (λ n. slice_index_or new n None) other in
    record {
      lowers = visit.ensures;
      beside = λ e before.
          let low = subst₂ (λ m o. (visit.result.lowered ≡ false) ⊎ IsNoPin m o) c.mark.ensures beside (c.may_lower.ensures e) in
          stays_reached task.graph.now costs task.pats.now given.labels.now start.problem start.graph start.lowering old new (flip class) class visit.result.lowered visit.ensures.takes visit.ensures.others (λ same. flip_apart class (sym same)) low before;
    }
