use Rattle.std.proofs.Common.{◌<◌, [], length, sym, ◌∙◌, subst, arith, get_or}
use Rattle.std.proofs.lemmas.List.{get_or_default}
use Rattle.lw_mapped.specs.Texts.{optional_arrival}
use Rattle.lw_mapped.proofs.TextParts.{arrivals_more, arrivals_none}
use Rattle.lw_io.specs.Writers.{Writes}
use Rattle.lw_io.proofs.Putting.{Writes-both, Writes-none}
use Rattle.lw_mapped.proofs.frames.put_arrivals.Goals as goal

pub loop-k-init : goal.loop-k-init
loop-k-init g c = subst (λ l. Writes g.S.Sink.taken g.S.Sink.faults c.args.out.now c.args.out.now l) (sym (arrivals_none c.args.names.now)) Writes-none

pub loop-k-preserved : goal.loop-k-preserved
loop-k-preserved g c =
    let in_names : c.loop-k.k < length c.args.names.now = omega (arith, c.requires, c.loop-k-test.true) in
    let name = c.as_bytes.ensures.bytes ∙ (c.index-names-k.is ∙ get_or_default c.args.names.now c.loop-k.k c.index-names-k.result [] in_names) in
    let next = subst (λ w. Writes g.S.Sink.taken g.S.Sink.faults c.loop-k.out c.put_optional_arrival.new.out (optional_arrival w (get_or c.args.starts.now c.loop-k.k (record { 0 = 0 })))) name c.put_optional_arrival.ensures in
    subst (λ l. Writes g.S.Sink.taken g.S.Sink.faults c.args.out.now c.put_optional_arrival.new.out l) (sym (arrivals_more c.args.names.now c.args.starts.now c.loop-k.k (record { 0 = 0 }) in_names c.loop-k-test.true)) (Writes-both c.loop-k.invariant next)
