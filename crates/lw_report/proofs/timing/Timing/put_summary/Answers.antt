use Rattle.std.proofs.Common.{◌≡◌, ◌<◌, ◌∙◌, List, All, length, map, sym, ap, subst}
use Rattle.std.specs.List.{flat_map}
use Rattle.std.proofs.lemmas.List.{length-map}
use Rattle.lw_fixed.specs.declared.micro.Micro.{Micro}
use Rattle.lw_genlib.specs.Tables.{millionths}
use Rattle.lw_netlist.specs.declared.gate.Port.{Port}
use Rattle.lw_io.specs.Writers.{Writes}
use Rattle.lw_io.proofs.Putting.{Writes-both}
use Rattle.lw_report.specs.Timings.{TimingParts, arrival_line, summary_text}
use Rattle.lw_report.proofs.timing.Timing.put_summary.Goals as goal

pub put_arrivals-requires : goal.put_arrivals-requires
put_arrivals-requires g c =
    let size : length c.deref.result.now ≡ length c.args.self.now.arrivals = ap (λ (ms : List Micro). length ms) c.deref.ensures.value ∙ (sym (length-map c.self.inside.arrivals.items millionths) ∙ ap (λ (t : TimingParts). length t.arrivals) c.self.view_is) in
    subst (λ m. All (λ (p : Port). p.net.0 < m) c.args.ports.now) (sym size) c.requires

pub returns : goal.returns
returns g c =
    let arrivals = subst (λ (ms : List Micro). Writes g.S.Sink.taken g.S.Sink.faults c.args.out.now c.put_arrivals.new.out (flat_map (arrival_line (map millionths ms)) c.args.ports.now)) c.deref.ensures.value c.put_arrivals.ensures in
    let whole = Writes-both (Writes-both arrivals (Writes-both c.put.ensures c.put_last.ensures)) (Writes-both c.put-2.ensures c.put_last-2.ensures) in
    subst (λ (t : TimingParts). Writes g.S.Sink.taken g.S.Sink.faults c.args.out.now c.put_last-2.new.out (summary_text c.args.ports.now t.arrivals t.latest t.area)) c.self.view_is whole
