use Rattle.std.proofs.Common.{◌≡◌, Some, None, length, find, nat_le, option_map, sym, ◌∙◌}
use Rattle.std.specs.List.{filter_map}
use Rattle.lw_check.specs.Claims.{class_number, labelled_from}
use Rattle.lw_check.proofs.Unknown.{found_first, found_second}
use Rattle.lw_check.proofs.classes.first_unknown.Goals as goal

pub returns-in-Some : goal.returns-in-Some
returns-in-Some c =
    let case = c.args.case.now in
    let labels = case.mapped.now.cert.labels in
    let nets = case.mapped.now.cert.nets in
    let here : Some c.in-Some.class ≡ find (nat_le (length case.graph.now.pairs)) (labelled_from 0 labels) = c.in-Some.ensures ∙ (λ i. find (nat_le (c.classes-classes.ensures.classes i)) (labelled_from 0 (c.as_slice.ensures i))) in
    sym (found_first (length case.graph.now.pairs) (labelled_from 0 labels) (filter_map (option_map class_number) nets) c.in-Some.class (sym here))

pub returns-in-None : goal.returns-in-None
returns-in-None c =
    let case = c.args.case.now in
    let labels = case.mapped.now.cert.labels in
    let nets = case.mapped.now.cert.nets in
    let here : None ≡ find (nat_le (length case.graph.now.pairs)) (labelled_from 0 labels) = c.in-None.ensures ∙ (λ i. find (nat_le (c.classes-classes.ensures.classes i)) (labelled_from 0 (c.as_slice.ensures i))) in
    c.first_beyond.ensures ∙ ((λ i. find (nat_le (c.classes-classes.ensures.classes i)) (filter_map (option_map class_number) (c.as_slice-in-None.ensures i))) ∙ sym (found_second (length case.graph.now.pairs) (labelled_from 0 labels) (filter_map (option_map class_number) nets) (sym here)))
