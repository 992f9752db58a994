use Rattle.std.proofs.Common.{◌<◌, ◌≤◌, ◌+◌, [], length, drop, ap, sym, ◌∙◌, arith}
use Rattle.std.specs.Prelude.{slice_index_or}
use Rattle.std.specs.List.{slice_range}
use Rattle.std.proofs.lemmas.Option.{slice_get-get_or}
use Rattle.std.proofs.lemmas.List.{drop_all}
use Rattle.lw_facts.proofs.Lists.{drop_get, slice_range_more}
use Rattle.lw_mapped.specs.GateLines.{first_tie_fault}
use Rattle.lw_mapped.proofs.TieLemmas.{first-is, first-none, first-end, none-is}
use Rattle.lw_mapped.proofs.ties.first_tie_fault.Goals as goal

pub loop-place-preserved : goal.loop-place-preserved
loop-place-preserved c =
    let words = c.args.words.now in
    let place = c.loop-place.place in
    let below : place < length words = omega (arith, c.loop-place-test.true, c.len-place-end.ensures) in
    let there = slice_get-get_or words place [] below in
    let none = sym c.tie_fault-fault.ensures ∙ none-is c.tie_fault-fault.result (sym c.is_some.ensures ∙ c.if-is_some.false) in
    ap (λ b. first_tie_fault c.args.cell.now b (drop (place + 1) words)) (slice_range_more words 2 place (slice_index_or words place []) c.loop-place.auto.place there)
    ∙ (sym (first-none c.args.cell.now (slice_range words 2 place) (slice_index_or words place []) (drop (place + 1) words) none)
    ∙ (sym (ap (first_tie_fault c.args.cell.now (slice_range words 2 place)) (drop_get words place (slice_index_or words place []) there)) ∙ c.loop-place.invariant))

pub returns-then-is_some : goal.returns-then-is_some
returns-then-is_some c =
    let words = c.args.words.now in
    let place = c.loop-place.place in
    let below : place < length words = omega (arith, c.loop-place-test.true, c.len-place-end.ensures) in
    let there = slice_get-get_or words place [] below in
    sym (first-is c.args.cell.now (slice_range words 2 place) (slice_index_or words place []) (drop (place + 1) words) c.tie_fault-fault.result (sym c.tie_fault-fault.ensures) (sym c.is_some.ensures ∙ c.if-is_some.true))
    ∙ (sym (ap (first_tie_fault c.args.cell.now (slice_range words 2 place)) (drop_get words place (slice_index_or words place []) there)) ∙ c.loop-place.invariant)

pub returns : goal.returns
returns c =
    let words = c.args.words.now in
    let place = c.loop-place.place in
    let far : length words ≤ place = omega (arith, c.loop-place-test.false, c.len-place-end.ensures) in
    sym (first-end c.args.cell.now (slice_range words 2 place))
    ∙ (sym (ap (first_tie_fault c.args.cell.now (slice_range words 2 place)) (drop_all place words far)) ∙ c.loop-place.invariant)
