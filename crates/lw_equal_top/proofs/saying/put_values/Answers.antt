use Rattle.std.proofs.Common.{◌<◌, ◌≤◌, false, length, get_or, sym, ◌∙◌, subst, subst₂, arith}
use Rattle.std.proofs.lemmas.List.{take_all}
use Rattle.lw_io.specs.Writers.{Writes}
use Rattle.lw_io.proofs.Putting.{Writes-both}
use Rattle.lw_equal_top.specs.Texts.{value_line, values_text}
use Rattle.lw_equal_top.proofs.Values.{values_more}
use Rattle.lw_equal_top.proofs.saying.put_values.Goals as goal

pub loop-k-preserved : goal.loop-k-preserved
loop-k-preserved g c =
    let names = c.args.names.now in
    let values = c.args.values.now in
    let k = c.loop-k.k in
    let within : k < length values = omega (arith, c.loop-k-test.true, c.requires) in
    let next = subst (λ name. Writes g.S.Sink.taken g.S.Sink.faults c.loop-k.out c.put_value.new.out (value_line name (get_or values k false))) (c.as_bytes.ensures.bytes ∙ c.index-names-k.is) c.put_value.ensures in
    subst (λ l. Writes g.S.Sink.taken g.S.Sink.faults c.args.out.now c.put_value.new.out l) (sym (values_more names values k c.index-names-k.result false c.loop-k-test.true within)) (Writes-both c.loop-k.invariant next)

pub returns : goal.returns
returns g c =
    let names = c.args.names.now in
    let values = c.args.values.now in
    let past : length values ≤ c.loop-k.k = omega (arith, c.loop-k-test.false, c.requires) in
    subst₂ (λ ns vs. Writes g.S.Sink.taken g.S.Sink.faults c.args.out.now c.loop-k.out (values_text ns vs)) (take_all c.loop-k.k names c.loop-k-test.false) (take_all c.loop-k.k values past) c.loop-k.invariant
