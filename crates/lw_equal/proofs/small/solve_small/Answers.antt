use Rattle.std.proofs.Common.{◌≡◌, ◌∙◌, ap, length, subst, sym}
use Rattle.lw_sweep.proofs.Growing.{extended_both}
use Rattle.lw_equal.specs.Laid.{BeginsWith}
use Rattle.lw_equal.specs.Sides.{inputs_of}
use Rattle.lw_equal.proofs.Laying.{begins, begins_later, laid_later}
use Rattle.lw_equal.proofs.small.solve_small.Goals as goal

pub lay-requires-clause-inputs : goal.lay-requires-clause-inputs
lay-requires-clause-inputs c =
    let count = c.len-inputs.result in
    let size : count ≡ length (inputs_of c.args.one.now.side.now.logic) = c.len-inputs.ensures.len ∙ ap length c.requires.known.inputs in
    subst (BeginsWith c.in_ok-sweep.sweep) size (subst (λ gates. BeginsWith gates count) (sym c.in_ok-sweep.ensures) (begins count))

pub lay-requires-2-clause-inputs : goal.lay-requires-2-clause-inputs
lay-requires-2-clause-inputs c =
    let count = c.len-inputs.result in
    let size : count ≡ length (inputs_of c.args.one.now.side.now.logic) = c.len-inputs.ensures.len ∙ ap length c.requires.known.inputs in
    let first = subst (BeginsWith c.in_ok-sweep.sweep) size (subst (λ gates. BeginsWith gates count) (sym c.in_ok-sweep.ensures) (begins count)) in
    begins_later c.in_ok-sweep.sweep c.lay.new.sweep (length (inputs_of c.args.one.now.side.now.logic)) c.lay.ensures.grows first

pub try_in-requires-clause-case : goal.try_in-requires-clause-case
try_in-requires-clause-case c =
    let one = c.args.one.now.side.now in
    let names = inputs_of one.logic in
    let count = c.len-inputs.result in
    let size : count ≡ length names = c.len-inputs.ensures.len ∙ ap length c.requires.known.inputs in
    let start = subst (BeginsWith c.in_ok-sweep.sweep) size (subst (λ gates. BeginsWith gates count) (sym c.in_ok-sweep.ensures) (begins count)) in
    let first = c.lay.new.sweep in
    let last = c.lay-2.new.sweep in
    let grows = extended_both c.in_ok-sweep.sweep first last c.lay.ensures.grows c.lay-2.ensures.grows in
    let left = rw c.in-Some.is at c.in_ok-left.ensures.laid in
    let right = rw c.in-Some-2.is at c.in_ok-right.ensures.laid in
    record {
      looked = record { known = c.requires.known; other = c.requires.other; places = right.places };
      begins = begins_later c.in_ok-sweep.sweep last (length names) grows start;
      left = laid_later first last names one c.in-Some.left c.lay-2.ensures.grows left;
      right = right;
    }
