use Rattle.std.proofs.Common.{◌||◌, ◌+◌, ap, sym, ◌∙◌, arith}
use Rattle.std.specs.List.{list_any, slice_range}
use Rattle.lw_mapped.specs.GateLines.{is_for}
use Rattle.lw_mapped.proofs.WordLists.{range-first, range-none}
use Rattle.lw_mapped.proofs.ties.gives.Goals as goal

pub returns-then-is_for : goal.returns-then-is_for
returns-then-is_for c =
    let first = ap (list_any (is_for c.args.formal.now)) (range-first c.args.words.now c.loop-place.place c.args.end c.get.result.now (omega arith) c.get.ensures.word) in
    sym (first ∙ ap (λ b. b || list_any (is_for c.args.formal.now) (slice_range c.args.words.now (c.loop-place.place + 1) c.args.end)) (sym c.is_for.ensures ∙ c.if-is_for.true)) ∙ c.loop-place.invariant

pub loop-place-preserved : goal.loop-place-preserved
loop-place-preserved c =
    let first = ap (list_any (is_for c.args.formal.now)) (range-first c.args.words.now c.loop-place.place c.args.end c.get.result.now (omega arith) c.get.ensures.word) in
    sym (first ∙ ap (λ b. b || list_any (is_for c.args.formal.now) (slice_range c.args.words.now (c.loop-place.place + 1) c.args.end)) (sym c.is_for.ensures ∙ c.if-is_for.false)) ∙ c.loop-place.invariant

pub returns : goal.returns
returns c =
    let past = c.loop-place-test.false in
    sym (ap (list_any (is_for c.args.formal.now)) (range-none c.args.words.now c.loop-place.place c.args.end (omega arith))) ∙ c.loop-place.invariant
