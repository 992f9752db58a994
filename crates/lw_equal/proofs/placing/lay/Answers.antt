use Rattle.std.proofs.Common.{◌∙◌, ap, map, subst}
use Rattle.lw_joint.specs.Pairs.{input_literal}
use Rattle.lw_equal.specs.Laid.{ArePlaces, HaveValuesOf}
use Rattle.lw_equal.specs.Sides.{inputs_of}
use Rattle.lw_equal.proofs.Laying.{is_laid}
use Rattle.lw_equal.proofs.placing.lay.Goals as goal

pub returns-clause-laid : goal.returns-clause-laid
returns-clause-laid c =
    let gates = c.logic_literals.new.sweep in
    let all = inputs_of c.args.one.now.side.now.logic in
    let side = c.args.side.now in
    let places = c.in-Some.places in
    let literals = c.in-Some-2.literals in
    let found = rw c.in-Some.is at c.in_ok-places.ensures in
    let keyed = subst (λ ks. ArePlaces ks c.inputs.result.now places.items) c.requires.known.inputs found in
    let named = subst (λ ns. ArePlaces all ns places.items) c.inputs.ensures.names keyed in
    let read = rw c.in-Some-2.is at c.in_ok-literals.ensures.values in
    let have = subst (λ ls. HaveValuesOf gates side.logic ls literals.items) c.deref-2.ensures.value read in
    let same = c.in_ok-inputs.ensures.literals ∙ ap (map input_literal) c.deref.ensures.value in
    is_laid gates all side (record { places = places; literals = literals }) c.in_ok-inputs.inputs.items same named have
