use Rattle.std.proofs.Common.{◌≡◌, ◌∙◌, ap, length, subst, sym}
use Rattle.lw_equal.specs.Laid.{BeginsWith}
use Rattle.lw_equal.specs.Sides.{inputs_of}
use Rattle.lw_equal.proofs.Laying.{begins}
use Rattle.lw_equal.proofs.comparing.solve_within.Goals as goal

pub solve_in-requires-clause-inputs : goal.solve_in-requires-clause-inputs
solve_in-requires-clause-inputs c =
    let count = c.len-inputs.result in
    let size : count ≡ length (inputs_of c.args.one.now.side.now.logic) = c.len-inputs.ensures.len ∙ ap length c.requires.known.inputs in
    subst (BeginsWith c.in_ok-sweep.sweep) size (subst (λ gates. BeginsWith gates count) (sym c.in_ok-sweep.ensures) (begins count))
