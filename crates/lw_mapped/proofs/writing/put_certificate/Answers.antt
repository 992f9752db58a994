use Rattle.std.proofs.Common.{ℕ, All, List, sym, subst}
use Rattle.lw_netlist.specs.declared.gate.Gate.{Gate}
use Rattle.lw_mapped.specs.Texts.{label_lines, net_lines, certificate_text, now_of, HasNames}
use Rattle.lw_io.specs.Writers.{Writes}
use Rattle.lw_io.proofs.Putting.{Writes-both}
use Rattle.lw_mapped.proofs.TextParts.{gates_named}
use Rattle.lw_mapped.proofs.writing.put_certificate.Goals as goal

pub returns-in-Some : goal.returns-in-Some
returns-in-Some g c =
    let labels = subst (λ ls. Writes g.S.Sink.taken g.S.Sink.faults c.args.out.now c.put_labels.new.out (label_lines 0 ls)) c.as_slice.ensures c.put_labels.ensures in
    let names = subst (λ ns. Writes g.S.Sink.taken g.S.Sink.faults c.put_labels.new.out c.put_nets.new.out (net_lines ns c.gates.result.now c.as_slice-in-Some.result.now)) c.names.ensures.names c.put_nets.ensures in
    let gates = subst (λ gs. Writes g.S.Sink.taken g.S.Sink.faults c.put_labels.new.out c.put_nets.new.out (net_lines c.args.netlist.now.names gs c.as_slice-in-Some.result.now)) c.gates.ensures.gates names in
    let nets = subst (λ cs. Writes g.S.Sink.taken g.S.Sink.faults c.put_labels.new.out c.put_nets.new.out (net_lines c.args.netlist.now.names c.args.netlist.now.gates cs)) c.as_slice-in-Some.ensures gates in
    subst (λ o. Writes g.S.Sink.taken g.S.Sink.faults c.args.out.now c.put_nets.new.out (certificate_text c.args.netlist.now (now_of o))) (sym c.in-Some.is) (Writes-both labels nets)

pub put_nets-requires-clause-named : goal.put_nets-requires-clause-named
put_nets-requires-clause-named g c =
    subst (λ (gates : List Gate). All (HasNames c.names.result.now) gates) (sym c.gates.ensures.gates)
    (subst (λ (names : List (List ℕ)). All (HasNames names) c.args.netlist.now.gates) (sym c.names.ensures.names) (gates_named c.args.netlist.now c.names.ensures.kept))
