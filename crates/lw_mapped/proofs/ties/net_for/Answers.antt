use Rattle.std.proofs.Common.{◌≤◌, ◌+◌, length, drop, ap, sym, ◌∙◌, arith}
use Rattle.std.specs.Str.{bytes_eq}
use Rattle.std.proofs.lemmas.List.{drop_all}
use Rattle.lw_facts.proofs.Lists.{drop_get}
use Rattle.lw_mapped.specs.GateLines.{net_for}
use Rattle.lw_mapped.proofs.TieLemmas.{net-here, net-later}
use Rattle.lw_mapped.proofs.ties.net_for.Goals as goal

pub returns-then-eq : goal.returns-then-eq
returns-then-eq c =
    let words = c.args.words.now in
    let place = c.loop-place.place in
    let is = ap (λ w. bytes_eq w c.args.formal.now) (sym c.cut.ensures.before) ∙ (sym c.eq.ensures ∙ c.if-eq.true) in
    c.cut.ensures.after
    ∙ (sym (net-here c.get.result.now (drop (place + 1) words) c.args.formal.now is)
    ∙ (sym (ap (λ l. net_for l c.args.formal.now) (drop_get words place c.get.result.now c.get.ensures.word)) ∙ c.loop-place.invariant))

pub loop-place-preserved : goal.loop-place-preserved
loop-place-preserved c =
    let words = c.args.words.now in
    let place = c.loop-place.place in
    let is = ap (λ w. bytes_eq w c.args.formal.now) (sym c.cut.ensures.before) ∙ (sym c.eq.ensures ∙ c.if-eq.false) in
    sym (net-later c.get.result.now (drop (place + 1) words) c.args.formal.now is)
    ∙ (sym (ap (λ l. net_for l c.args.formal.now) (drop_get words place c.get.result.now c.get.ensures.word)) ∙ c.loop-place.invariant)

pub returns : goal.returns
returns c =
    let far : length c.args.words.now ≤ c.loop-place.place = omega (arith, c.loop-place-test.false, c.len-place-end.ensures) in
    sym (ap (λ l. net_for l c.args.formal.now) (drop_all c.loop-place.place c.args.words.now far)) ∙ c.loop-place.invariant
