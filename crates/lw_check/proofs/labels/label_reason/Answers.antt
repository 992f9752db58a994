use Rattle.std.proofs.Common.{Some, None, slice_index_or, refl, ap, ◌∙◌, arith}
use Rattle.lw_genlib.specs.Tables.{millionths}
use Rattle.std.proofs.Common.{option_map}
use Rattle.lw_check.specs.Cases.{claim_of}
use Rattle.lw_check.proofs.Reasons.{found_moved, has_potential, is_unbounded}
use Rattle.lw_check.proofs.labels.label_reason.Goals as goal

pub returns-in_default : goal.returns-in_default
returns-in_default c =
    let k = claim_of c.args.case.now in
    let labels = c.in_ok-labels.labels.items in
    let classes = c.classes.ensures.classes in
    has_potential k c.requires.classes labels (c.in_ok-labels.ensures.one_each ∙ classes)
    (λ class lt. c.in_ok-labels.ensures.each class (omega (arith, lt, classes)) ∙ ap (λ ls. option_map millionths (slice_index_or ls class None)) c.as_slice-given.ensures)
    (found_moved k.graph k.pats c.new.result.lib.now k.cells c.new.result.starts.now k.starts c.deref.result.now labels c.in_ok-found.field-0 None c.new.ensures.lib c.new.ensures.starts c.deref.ensures.value c.in_default.is c.in_ok-found.ensures)

pub returns : goal.returns
returns c =
    let k = claim_of c.args.case.now in
    let labels = c.in_ok-labels.labels.items in
    let classes = c.classes.ensures.classes in (
      c.requires.ports,
      c.requires.classes,
      c.requires.matches,
      is_unbounded k c.requires.classes labels (c.in_ok-labels.ensures.one_each ∙ classes)
          (λ class lt. c.in_ok-labels.ensures.each class (omega (arith, lt, classes)) ∙ ap (λ ls. option_map millionths (slice_index_or ls class None)) c.as_slice-given.ensures)
          c.in-Some.found c.label_of-label.result (record { 0 = c.in-Some.found.value }) refl (c.label_of-label.ensures ∙ ap (λ ls. slice_index_or ls c.in-Some.found.class.0 None) c.as_slice-given.ensures)
          (found_moved k.graph k.pats c.new.result.lib.now k.cells c.new.result.starts.now k.starts c.deref.result.now labels c.in_ok-found.field-0 (Some c.in-Some.found) c.new.ensures.lib c.new.ensures.starts c.deref.ensures.value c.in-Some.is c.in_ok-found.ensures),
    )
