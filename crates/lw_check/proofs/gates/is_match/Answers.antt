use Rattle.std.proofs.Common.{Some, get_or, map, ap, sym, subst, ◌∙◌, arith}
use Rattle.std.proofs.lemmas.Option.{slice_get_within, slice_get-get_or}
use Rattle.std.proofs.lemmas.Bool.{true_from_ne_false}
use Rattle.lw_check.specs.Cases.{claim_of}
use Rattle.lw_check.specs.Claims.{class_of_net}
use Rattle.lw_check.specs.Gates.{AreClassesOf, FindsMatch}
use Rattle.lw_check.specs.declared.spans.Span.{Span}
use Rattle.lw_check.proofs.Matching.{match_by, no_match_by}
use Rattle.lw_check.proofs.gates.is_match.Goals as goal
use Rattle.lw_pool.specs.Numbers.{numbers}

pub returns : goal.returns
returns c =
    let k = claim_of c.args.case.now in
    let gate = c.args.gate.now in
    let pins = c.as_slice-2.result.now in
    let lib = c.len.ensures.kept in
    let has = c.requires.cell in
    let class = c.in-Some.class in
    let at = sym c.in-Some.ensures.class in
    let are : AreClassesOf k gate.pins (Some pins) = sym (ap (map (class_of_net k)) c.as_slice.ensures) ∙ (c.in-Some-classes_of_pins.ensures.classes ∙ ap (λ cs. map Some (numbers cs)) (sym c.as_slice-2.ensures.classes)) in
    let spans = c.args.spans.now in
    let none : Span = record { first = 0; end = 0 } in
    let below = slice_get_within k.cells gate.cell.0 has.cell has.at in
    let count = c.requires.spans.one_each in
    let span = get_or spans gate.cell.0 none in (
      λ t. (let (place, by) = subst (λ b. FindsMatch k span gate.cell (numbers pins) class b) t c.is_match_in.ensures in match_by k gate lib has class pins at are place by),
      λ is. true_from_ne_false c.is_match_in.result (λ f. no_match_by k gate lib has class pins at are spans span c.requires.spans (slice_get-get_or spans gate.cell.0 none (omega arith)) (subst (λ b. FindsMatch k span gate.cell (numbers pins) class b) f c.is_match_in.ensures) is),
    )
