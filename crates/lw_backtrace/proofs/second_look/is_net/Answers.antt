use Rattle.std.proofs.Common.{◌≡◌, inl, Some, None, ap, sym, ◌∙◌, arith}
use Rattle.std.proofs.lemmas.Bool.{eqb-true}
use Rattle.lw_choices.proofs.Lists.{got}
use Rattle.lw_backtrace.proofs.second_look.is_net.Goals as goal

pub returns-in-Some-inputs : goal.returns-in-Some-inputs
returns-in-Some-inputs c = λ yes.
    let (row, at, last) = c.in-Some.ensures in
    let net : c.args.net ≡ c.in-Some-inputs.input = eqb-true c.args.net c.in-Some-inputs.input yes in
    record {
      row = row;
      at = at;
      place = c.in-Some.place;
      last = last;
      right = inl (got c.args.plan.now.inputs.now c.args.want.class.0 None (omega (arith, c.if-want-plan.false)) ∙ ap Some (c.in-Some-inputs.is ∙ ap Some (sym net)));
    }
