use Rattle.std.proofs.Common.{ℕ, suc, ◌≤◌, length, add-one, sym, ap, ap₂, ◌∙◌, subst, arith}
use Rattle.std.proofs.lemmas.List.{length-take-le}
use Rattle.lw_laws.specs.Covers.{HasPins}
use Rattle.lw_laws.specs.Marks.{Mark}
use Rattle.lw_cost.specs.Values.{marks_in}
use Rattle.lw_settle.proofs.Reading.{greatest_low}
use Rattle.lw_settle.proofs.store.mark_of.Goals as goal
use Rattle.lw_pool.specs.Numbers.{numbers}

pub read_marks-height-requires : goal.read_marks-height-requires
read_marks-height-requires g c =
    record { few = c.requires.pins.few; within = c.requires.pins.within; marked = c.requires.pins.marked }

pub slice_bounds-costs-end : goal.slice_bounds-costs-end
slice_bounds-costs-end g c = omega (arith, c.read_marks-height.auto.costs, c.requires.pins.few)

pub slice_bounds-value-end : goal.slice_bounds-value-end
slice_bounds-value-end g c =
    let costs = c.read_marks-height.new.costs in
    let room : length c.args.pins.now ≤ length costs = omega (arith, c.read_marks-height.auto.costs, c.requires.pins.few) in
    sym (length-take-le (length c.args.pins.now) costs room)

pub value-requires : goal.value-requires
value-requires g c =
    let costs = c.read_marks-height.new.costs in
    let room : length c.args.pins.now ≤ length costs = omega (arith, c.read_marks-height.auto.costs, c.requires.pins.few) in
    subst (λ n. HasPins (g.C.Cost.costs c.args.cost.now).pin_counts c.args.cell.0 n) (sym (length-take-le (length c.args.pins.now) costs room)) c.requires.of_cell

pub overflow_add-result : goal.overflow_add-result
overflow_add-result g c =
    let (ks, have, costs, height) = c.read_marks-height.ensures in
    let low = greatest_low (marks_in c.args.marks.now) (numbers c.args.pins.now) ks (λ p k e. (c.requires.in_range p k e).1) have in
    omega arith

pub returns : goal.returns
returns g c =
    let (ks, have, costs, height) = c.read_marks-height.ensures in
    let value = c.value.ensures ∙ ap (λ ds. (g.C.Cost.costs c.args.cost.now).value c.args.cell.0 ds) costs in
    let high = add-one c.read_marks-height.result ∙ ap suc height in
    let make : ℕ → ℕ → Mark = λ x h. record { cost = x; height = h } in
    (ks, have, ap₂ make value high)
