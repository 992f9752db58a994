use Rattle.std.proofs.Common.{ℕ, Bool, false, List, [], ◌∷◌, get_or, sym, ap, subst, ◌∙◌}
use Rattle.std.specs.List.{flat_map}
use Rattle.std.proofs.lemmas.List.{take_all}
use Rattle.std.proofs.lemmas.List.Concat.{flat_map_single}
use Rattle.std.proofs.lemmas.Simd.{map-map}
use Rattle.lw_pool.specs.declared.id.NetId.{NetId}
use Rattle.lw_netlist.specs.declared.gate.Port.{Port}
use Rattle.lw_io.specs.Writers.{Writes}
use Rattle.lw_io.proofs.Putting.{Writes-both, Writes-more}
use Rattle.lw_report.specs.Blocks.{bits_at}
use Rattle.lw_report.specs.Simulated.{digit, port_net}
use Rattle.lw_report.proofs.SimLemmas.{bits_anywhere}
use Rattle.lw_report.proofs.outputs.put_ports.Goals as goal

pub loop-port-preserved : goal.loop-port-preserved
loop-port-preserved g c =
    let k = c.args.k in
    let nets = c.args.nets.now in
    let port = c.port-item.result in
    let value = subst (λ (b : Bool). Writes g.S.Sink.taken g.S.Sink.faults c.loop-port.out c.put_value.new.out (digit b ∷ [])) (sym (bits_anywhere k nets port.net.0)) c.put_value.ensures in
    let next = subst (λ (p : Port). Writes g.S.Sink.taken g.S.Sink.faults c.loop-port.out c.put_value.new.out (digit (get_or (bits_at k nets) p.net.0 false) ∷ [])) c.port-item.is value in
    Writes-more (λ (p : Port). digit (get_or (bits_at k nets) p.net.0 false) ∷ []) c.args.outputs.now c.loop-port.port-index c.port-item.result c.loop-port-test.true c.loop-port.invariant next

pub returns : goal.returns
returns g c =
    let value = λ (m : NetId). digit (get_or (bits_at c.args.k c.args.nets.now) m.0 false) in
    let of_port = λ (p : Port). value (port_net p) in
    let outputs = c.args.outputs.now in
    let all = take_all c.loop-port.port-index outputs c.loop-port-test.false in
    let line = ap (flat_map (λ (p : Port). of_port p ∷ [])) all ∙ (flat_map_single of_port outputs ∙ sym (map-map value port_net outputs)) in
    let front = subst (λ (l : List ℕ). Writes g.S.Sink.taken g.S.Sink.faults c.args.out.now c.loop-port.out l) line c.loop-port.invariant in
    Writes-both front c.put.ensures
