use Rattle.std.proofs.Common.{◌<◌, ◌≤◌, All, Contains, length, ap, sym, ◌∙◌, subst, subst₂, arith}
use Rattle.std.proofs.lemmas.List.{take_all}
use Rattle.std.proofs.lemmas.List.Elements.{All-get_or}
use Rattle.lw_pool.specs.declared.id.ClassId.{ClassId}
use Rattle.lw_io.specs.Writers.{Writes}
use Rattle.lw_io.proofs.Putting.{Writes-both}
use Rattle.lw_lut.specs.Nets.{net_classes}
use Rattle.lw_lut.specs.Texts.{wire_text, wires}
use Rattle.lw_lut.specs.declared.ports.TablePorts.{TablePorts}
use Rattle.lw_lut.proofs.NetsPlaced.{have_roots}
use Rattle.lw_lut.proofs.Pieces.{wires_more}
use Rattle.lw_lut.proofs.writing.put_wires.Goals as goal

abbrev none : ClassId
none = record { 0 = 0 }

pub bounds-roots-k : goal.bounds-roots-k
bounds-roots-k g c =
    let roots_are = ap length (c.as_slice-roots.ensures ∙ ap (λ (p : TablePorts). p.roots) c.ports-ports.ensures) in
    let outputs_are = ap length (c.as_slice-outputs.ensures ∙ ap (λ (p : TablePorts). p.outputs) c.ports-ports.ensures) in
    let lt = c.loop-k-test.true in
    omega (arith, lt, roots_are, outputs_are, c.keeps.ensures.roots)

pub net_name-requires : goal.net_name-requires
net_name-requires g c =
    let n = c.args.net.now in
    let roots_are = c.as_slice-roots.ensures ∙ ap (λ (p : TablePorts). p.roots) c.ports-ports.ensures in
    let outputs_are = ap length (c.as_slice-outputs.ensures ∙ ap (λ (p : TablePorts). p.outputs) c.ports-ports.ensures) in
    let counts = ap length roots_are in
    let lt = c.loop-k-test.true in
    let within : c.loop-k.k < length c.as_slice-roots.result.now = omega (arith, lt, counts, outputs_are, c.keeps.ensures.roots) in
    All-get_or (λ (root : ClassId). Contains (net_classes n) root.0) c.as_slice-roots.result.now c.loop-k.k none within (subst (All (λ (root : ClassId). Contains (net_classes n) root.0)) (sym roots_are) (have_roots n c.keeps.ensures.kept))

pub loop-k-preserved : goal.loop-k-preserved
loop-k-preserved g c =
    let n = c.args.net.now in
    let outputs = c.as_slice-outputs.result.now in
    let roots = c.as_slice-roots.result.now in
    let k = c.loop-k.k in
    let roots_are = ap length (c.as_slice-roots.ensures ∙ ap (λ (p : TablePorts). p.roots) c.ports-ports.ensures) in
    let outputs_are = ap length (c.as_slice-outputs.ensures ∙ ap (λ (p : TablePorts). p.outputs) c.ports-ports.ensures) in
    let in_roots : k < length roots = let lt = c.loop-k-test.true in omega (arith, lt, roots_are, outputs_are, c.keeps.ensures.roots) in
    let output = c.as_bytes.ensures.bytes ∙ c.index-outputs-k.is in
    let next = subst₂ (λ net name. Writes g.S.Sink.taken g.S.Sink.faults c.loop-k.out c.put_wire.new.out (wire_text net name)) c.net_name.ensures output c.put_wire.ensures in
    subst (λ l. Writes g.S.Sink.taken g.S.Sink.faults c.args.out.now c.put_wire.new.out l) (sym (wires_more n outputs roots k c.index-outputs-k.result none c.loop-k-test.true in_roots)) (Writes-both c.loop-k.invariant next)

pub returns : goal.returns
returns g c =
    let n = c.args.net.now in
    let outputs = c.as_slice-outputs.result.now in
    let roots = c.as_slice-roots.result.now in
    let roots_are = c.as_slice-roots.ensures ∙ ap (λ (p : TablePorts). p.roots) c.ports-ports.ensures in
    let outputs_are = c.as_slice-outputs.ensures ∙ ap (λ (p : TablePorts). p.outputs) c.ports-ports.ensures in
    let root_count = ap length roots_are in
    let output_count = ap length outputs_are in
    let past : length outputs ≤ c.loop-k.k = c.loop-k-test.false in
    let past_roots : length roots ≤ c.loop-k.k = omega (arith, past, root_count, output_count, c.keeps.ensures.roots) in
    subst₂ (λ os rs. Writes g.S.Sink.taken g.S.Sink.faults c.args.out.now c.loop-k.out (wires n os rs)) (take_all c.loop-k.k outputs past ∙ outputs_are) (take_all c.loop-k.k roots past_roots ∙ roots_are) c.loop-k.invariant
