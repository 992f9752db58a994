use Rattle.std.proofs.Common.{◌≡◌, ◌/◌, ◌⊎◌, ◌∙◌, false, None, slice_index_or, ap, sym, subst₂, arith}
use Rattle.lw_laws.specs.Flip.{flip}
use Rattle.lw_laws.proofs.Flips.{xor-one, half-flip}
use Rattle.lw_label.specs.OneVisit.{IsNoCheaper}
use Rattle.lw_label.proofs.OneVisit.{bounded_stays}
use Rattle.lw_label.proofs.Still.{flip_apart}
use Rattle.lw_label.proofs.labelling.Labelling.lower_beside.Goals as goal

pub lower_whole-lowered-requires-clause-place : goal.lower_whole-lowered-requires-clause-place
lower_whole-lowered-requires-clause-place g c = c.requires.place

pub lower_whole-lowered-requires-clause-may : goal.lower_whole-lowered-requires-clause-may
lower_whole-lowered-requires-clause-may g c = c.requires.may

pub mark-requires : goal.mark-requires
mark-requires g c =
    omega (arith, c.requires.place, c.lower_whole-lowered.ensures.found.search.sought.lowering.one_each)

pub mark-requires-2 : goal.mark-requires-2
mark-requires-2 g c =
    let class = c.args.class.0 in
    let at : c.flip.result.0 / 2 ≡ class / 2 = ap (λ n. n / 2) (c.flip.ensures ∙ xor-one class) ∙ half-flip class in
    omega (arith, c.requires.place, at, c.lower_whole-lowered.ensures.found.search.sought.lowering.one_each)

pub returns : goal.returns
returns g c =
    let task = c.args.task.now in
    let costs = g.C.Cost.costs task.cost.now in
    let class = c.args.class.0 in
    let whole = c.lower_whole-lowered in
    let old = c.args.self.now.marks.items in
    let new = whole.new.self.marks.items in
    let found = whole.ensures.found in
    let other : c.flip.result.0 ≡ flip class = c.flip.ensures ∙ xor-one class in
    let beside = c.mark-2.ensures ∙ ap (λ n. slice_index_or new n None) other in
    record {
      found = found;
      bounded = whole.ensures.bounded;
      beside = λ e before.
          let low = subst₂ (λ m o. (whole.result ≡ false) ⊎ IsNoCheaper m o) c.mark.ensures beside (c.may_lower.ensures e) in
          bounded_stays task.graph.now costs task.pats.now found.search.sought.problem old new (flip class) class whole.result found.search.sought.lowering whole.ensures.same found.others (λ same. flip_apart class (sym same)) low before;
    }
