use Rattle.std.proofs.Common.{inl, inr, Some, ap, ◌∙◌, arith}
use Rattle.lw_choices.proofs.Lists.{got, read_at}
use Rattle.lw_backtrace.proofs.second_look.is_used.Goals as goal

pub returns-then-place-nets : goal.returns-then-place-nets
returns-then-place-nets c = λ yes.
    inl (c.args.user.place, got c.args.nets.now c.args.user.place 0 (omega (arith, c.if-place-nets.true)) ∙ ap Some (c.is_of_gate.ensures yes))

pub returns-then-place-row : goal.returns-then-place-row
returns-then-place-row c = λ yes.
    let gate = c.in-Some.gate in
    let row = c.as_slice-row.result.now in
    let place = c.args.user.place in
    inr (
      gate,
      row,
      place,
      omega (arith, c.if-gate-number.false),
      read_at c.args.pins.now gate row (omega (arith, c.if-gate-pins.false)) (cc),
      got row place 0 (omega (arith, c.if-place-row.true)) ∙ ap Some (c.is_of_gate-then-place-row.ensures yes),
    )
