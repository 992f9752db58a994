use Rattle.std.proofs.Common.{◌≡◌, ◌∷◌, ◌∙◌, ap, subst, take, arith}
use Rattle.std.specs.List.{flat_map}
use Rattle.std.proofs.lemmas.List.{take_all}
use Rattle.lw_netlist.specs.declared.gate.Port.{Port}
use Rattle.lw_mapped.proofs.TextParts.{ports_spaced}
use Rattle.lw_io.specs.Writers.{Writes}
use Rattle.lw_io.proofs.Putting.{Writes-more}
use Rattle.lw_mapped.proofs.lines.put_port_words.Goals as goal

pub loop-port-preserved : goal.loop-port-preserved
loop-port-preserved g c =
    let next = subst (λ w. Writes g.S.Sink.taken g.S.Sink.faults c.loop-port.out c.put_word.new.out (32 ∷ w)) (c.as_bytes.ensures.bytes ∙ ap (λ (port : Port). port.name) c.port-item.is) c.put_word.ensures in
    Writes-more (λ (port : Port). 32 ∷ port.name) c.args.ports.now c.loop-port.port-index c.port-item.result c.loop-port-test.true c.loop-port.invariant next

pub returns : goal.returns
returns g c =
    let all : take c.loop-port.port-index c.args.ports.now ≡ c.args.ports.now = take_all c.loop-port.port-index c.args.ports.now (omega (arith, c.loop-port-test.false)) in
    subst (λ l. Writes g.S.Sink.taken g.S.Sink.faults c.args.out.now c.loop-port.out l) (ap (flat_map (λ (port : Port). 32 ∷ port.name)) all ∙ ports_spaced c.args.ports.now) c.loop-port.invariant
