use Rattle.std.proofs.Common.{All, ◌∙◌, ap, length, map, subst, sym}
use Rattle.std.proofs.lemmas.List.{take_all}
use Rattle.lw_aig.specs.Aigs.{IsBelow}
use Rattle.lw_joint.specs.Pairs.{input_literal}
use Rattle.lw_joint.proofs.Telling.{inputs_below}
use Rattle.lw_joint.proofs.pairs.input_literals.Goals as goal

pub returns-clause-within : goal.returns-clause-within
returns-clause-within c =
    subst (All (IsBelow (length c.args.gates.now)))
    (sym (c.loop-place.invariant ∙ ap (map input_literal) (take_all c.loop-place.place-index c.args.places.now c.loop-place-test.false)))
    (inputs_below c.args.gates.now c.args.places.now c.requires.inputs)
