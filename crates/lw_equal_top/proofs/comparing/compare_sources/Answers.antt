use Rattle.std.proofs.Common.{◌≡◌, List, length, get_or, drop, All, ap, subst, subst₂, sym, arith}
use Rattle.std.proofs.lemmas.List.Elements.{All-drop}
use Rattle.std.proofs.lemmas.Result.{err_from_is_err_and}
use Rattle.lw_equal.specs.declared.side.Side.{Side}
use Rattle.lw_equal.specs.Answers.{HasFault, IsAnswer}
use Rattle.lw_equal.specs.Sides.{IsSide}
use Rattle.lw_equal_top.proofs.Paired.{all_but_two, answered, as_many, refused}
use Rattle.lw_equal_top.proofs.comparing.compare_sources.Goals as goal

pub index-requires : goal.index-requires
index-requires c =
    let many = as_many c.args.library.now c.args.sources.now c.in_ok-sides.sides.items c.in_ok-sides.ensures.of in
    let two = c.requires.two in
    omega (arith, many, two)

pub index-requires-2 : goal.index-requires-2
index-requires-2 c =
    let many = as_many c.args.library.now c.args.sources.now c.in_ok-sides.sides.items c.in_ok-sides.ensures.of in
    let two = c.requires.two in
    omega (arith, many, two)

pub slice_bounds-compare-count : goal.slice_bounds-compare-count
slice_bounds-compare-count c =
    let many = as_many c.args.library.now c.args.sources.now c.in_ok-sides.sides.items c.in_ok-sides.ensures.of in
    let two = c.requires.two in
    let long = ap length c.deref.ensures.value in
    omega (arith, many, two, long)

pub slice_bounds-compare-start : goal.slice_bounds-compare-start
slice_bounds-compare-start c =
    let many = as_many c.args.library.now c.args.sources.now c.in_ok-sides.sides.items c.in_ok-sides.ensures.of in
    let two = c.requires.two in
    let long = ap length c.deref.ensures.value in
    omega (arith, many, two, long)

pub compare-requires-clause-one : goal.compare-requires-clause-one
compare-requires-clause-one c =
    let many = as_many c.args.library.now c.args.sources.now c.in_ok-sides.sides.items c.in_ok-sides.ensures.of in
    let two = c.requires.two in
    subst IsSide (sym c.index.ensures) (c.in_ok-sides.ensures.all 0 c.index.result.now (omega (arith, many, two)))

pub compare-requires-clause-other : goal.compare-requires-clause-other
compare-requires-clause-other c =
    let many = as_many c.args.library.now c.args.sources.now c.in_ok-sides.sides.items c.in_ok-sides.ensures.of in
    let two = c.requires.two in
    subst IsSide (sym c.index-2.ensures) (c.in_ok-sides.ensures.all 1 c.index-2.result.now (omega (arith, many, two)))

pub compare-requires-clause-more : goal.compare-requires-clause-more
compare-requires-clause-more c = subst (All IsSide) (sym (all_but_two c.deref.result.now c.in_ok-sides.sides.items c.deref.ensures.value)) (All-drop IsSide 2 c.in_ok-sides.sides.items c.in_ok-sides.ensures.all)

pub returns-in_err-outcome : goal.returns-in_err-outcome
returns-in_err-outcome c =
    let cells = c.args.library.now in
    let sources = c.args.sources.now in
    let sides = c.in_ok-sides.sides.items in
    let are = c.in_ok-sides.ensures.of in
    let many = as_many cells sources sides are in
    let two = c.requires.two in
    let d = c.index.result.now in
    let e = c.index-2.result.now in
    let why = c.in_err-outcome.field-0.0 in
    let more = subst (λ (ss : List Side). HasFault d e ss why) (all_but_two c.deref.result.now sides c.deref.ensures.value) c.in_err-outcome.ensures.fault in
    let fault = subst₂ (λ a b. HasFault a b (drop 2 sides) why) c.index.ensures c.index-2.ensures more in
    let p = err_from_is_err_and c.from_residual-in_err-outcome.result c.from_residual-in_err-outcome.ensures.1 in
    rw (p.1, p.2) (refused cells sources sides d e why (omega (arith, many, two)) are fault)

pub returns : goal.returns
returns c =
    let cells = c.args.library.now in
    let sources = c.args.sources.now in
    let sides = c.in_ok-sides.sides.items in
    let are = c.in_ok-sides.ensures.of in
    let many = as_many cells sources sides are in
    let two = c.requires.two in
    let answer = c.in_ok-outcome.outcome.answer in
    let right = subst₂ (λ a b. IsAnswer a b answer) c.index.ensures c.index-2.ensures c.in_ok-outcome.ensures.answer in
    answered cells sources sides c.index.result.now c.index-2.result.now answer (omega (arith, many, two)) are right
