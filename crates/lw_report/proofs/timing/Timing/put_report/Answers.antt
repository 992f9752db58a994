use Rattle.std.proofs.Common.{◌≡◌, ◌+◌, ◌<◌, ◌∙◌, List, All, length, map, sym, ap, subst}
use Rattle.std.specs.List.{flat_map}
use Rattle.std.proofs.lemmas.List.{length-map}
use Rattle.lw_fixed.specs.declared.micro.Micro.{Micro}
use Rattle.lw_genlib.specs.Tables.{millionths}
use Rattle.lw_netlist.specs.declared.gate.Port.{Port}
use Rattle.lw_netlist.specs.Plain.{plain_gate}
use Rattle.lw_io.specs.Writers.{Writes}
use Rattle.lw_io.proofs.Putting.{Writes-both}
use Rattle.lw_report.specs.declared.step.Step.{Step}
use Rattle.lw_report.specs.Made.{AreArrivalsFor, IsStepIn}
use Rattle.lw_report.specs.Timings.{TimingParts, summary_text, step_line}
use Rattle.lw_report.proofs.PathLemmas.{arrivals_count, path_steps_in}
use Rattle.lw_report.proofs.timing.Timing.put_report.Goals as goal

pub put_summary-requires : goal.put_summary-requires
put_summary-requires g c =
    let n = c.args.netlist.now in
    let made = c.requires.made in
    let kept = c.outputs.ensures.kept in
    let size : length c.args.self.now.arrivals ≡ length n.names = made.1.arrivals.one_each ∙ (ap (λ k. n.inputs + k) (length-map n.gates plain_gate) ∙ sym kept.named) in
    let known = subst (λ m. All (λ (p : Port). p.net.0 < m) n.outputs) (sym size) kept.outputs in
    subst (All (λ (p : Port). p.net.0 < length c.args.self.now.arrivals)) (sym c.outputs.ensures.outputs) known

pub put_steps-requires-clause-timed : goal.put_steps-requires-clause-timed
put_steps-requires-clause-timed g c =
    let n = c.args.netlist.now in
    let made = c.requires.made in
    let are = subst (λ (t : TimingParts). AreArrivalsFor c.args.lib.now n t.arrivals) (sym c.self.view_is) (made.0, made.1.arrivals) in
    record {
      over = c.requires.over;
      one_each = ap (λ (ms : List Micro). length ms) c.as_slice-time.ensures.value ∙ (arrivals_count c.args.lib.now n c.self.inside.arrivals.items are ∙ sym c.outputs.ensures.kept.named);
    }

pub put_steps-requires-clause-steps : goal.put_steps-requires-clause-steps
put_steps-requires-clause-steps g c =
    let n = c.args.netlist.now in
    let made = c.requires.made.1 in
    let steps = path_steps_in c.args.lib.now n c.args.self.now.arrivals made.path in
    let inside = subst (λ (t : TimingParts). All (IsStepIn n) t.path) (sym c.self.view_is) steps in
    subst (λ (p : List Step). All (IsStepIn n) p) (sym c.deref.ensures.value) inside

pub returns : goal.returns
returns g c =
    let cells = c.args.lib.now in
    let n = c.args.netlist.now in
    let self = c.args.self.now in
    let summary = subst (λ (ps : List Port). Writes g.S.Sink.taken g.S.Sink.faults c.args.out.now c.put_summary.new.out (summary_text ps self.arrivals self.latest self.area)) c.outputs.ensures.outputs c.put_summary.ensures in
    let path = subst (λ (p : List Step). Writes g.S.Sink.taken g.S.Sink.faults c.put_summary.new.out c.put_steps.new.out (flat_map (step_line cells n (map millionths c.as_slice-time.result.now)) p)) c.deref.ensures.value c.put_steps.ensures in
    let steps = subst (λ (ms : List Micro). Writes g.S.Sink.taken g.S.Sink.faults c.put_summary.new.out c.put_steps.new.out (flat_map (step_line cells n (map millionths ms)) c.self.inside.path.items)) c.as_slice-time.ensures.value path in
    let inside = subst (λ (t : TimingParts). Writes g.S.Sink.taken g.S.Sink.faults c.put_summary.new.out c.put_steps.new.out (flat_map (step_line cells n t.arrivals) t.path)) c.self.view_is steps in
    Writes-both summary inside
