use Rattle.std.proofs.Common.{ℕ, Bool, false, List, [], ◌∷◌, get_or, sym, ap, subst, ◌∙◌}
use Rattle.std.specs.List.{flat_map}
use Rattle.std.proofs.lemmas.List.{take_all}
use Rattle.std.proofs.lemmas.List.Concat.{flat_map_single}
use Rattle.lw_pool.specs.declared.id.NetId.{NetId}
use Rattle.lw_io.specs.Writers.{Writes}
use Rattle.lw_io.proofs.Putting.{Writes-both, Writes-more}
use Rattle.lw_report.specs.Blocks.{bits_at}
use Rattle.lw_report.specs.Simulated.{digit}
use Rattle.lw_report.proofs.SimLemmas.{bits_anywhere}
use Rattle.lw_report.proofs.outputs.put_nets.Goals as goal

pub loop-net-preserved : goal.loop-net-preserved
loop-net-preserved g c =
    let k = c.args.k in
    let nets = c.args.nets.now in
    let net : NetId = get_or c.args.outputs.now c.loop-net.net-index (record { 0 = 0 }) in
    let next = subst (λ (b : Bool). Writes g.S.Sink.taken g.S.Sink.faults c.loop-net.out c.put_value.new.out (digit b ∷ [])) (sym (bits_anywhere k nets net.0)) c.put_value.ensures in
    Writes-more (λ (m : NetId). digit (get_or (bits_at k nets) m.0 false) ∷ []) c.args.outputs.now c.loop-net.net-index (record { 0 = 0 }) c.loop-net-test.true c.loop-net.invariant next

pub returns : goal.returns
returns g c =
    let value = λ (m : NetId). digit (get_or (bits_at c.args.k c.args.nets.now) m.0 false) in
    let outputs = c.args.outputs.now in
    let all = take_all c.loop-net.net-index outputs c.loop-net-test.false in
    let line = ap (flat_map (λ (m : NetId). value m ∷ [])) all ∙ flat_map_single value outputs in
    let front = subst (λ (l : List ℕ). Writes g.S.Sink.taken g.S.Sink.faults c.args.out.now c.loop-net.out l) line c.loop-net.invariant in
    Writes-both front c.put.ensures
