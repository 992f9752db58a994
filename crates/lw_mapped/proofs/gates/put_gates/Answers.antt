use Rattle.std.proofs.Common.{List, sym, subst}
use Rattle.std.specs.List.{flat_map}
use Rattle.std.proofs.lemmas.List.{take_all}
use Rattle.lw_netlist.specs.declared.gate.Gate.{Gate}
use Rattle.lw_netlist.specs.Plain.{HasCell}
use Rattle.lw_mapped.specs.Texts.{gate_text, HasNames}
use Rattle.lw_io.specs.Writers.{Writes}
use Rattle.lw_io.proofs.Putting.{Writes-more}
use Rattle.lw_mapped.proofs.gates.put_gates.Goals as goal

pub loop-gate-preserved : goal.loop-gate-preserved
loop-gate-preserved g c =
    let next = subst (λ (gate : Gate). Writes g.S.Sink.taken g.S.Sink.faults c.loop-gate.out c.put_gate_of.new.out (gate_text c.args.lib.now c.args.names.now gate)) c.gate-item.is c.put_gate_of.ensures in
    Writes-more (gate_text c.args.lib.now c.args.names.now) c.args.gates.now c.loop-gate.gate-index c.gate-item.result c.loop-gate-test.true c.loop-gate.invariant next

pub put_gate_of-requires-clause-over : goal.put_gate_of-requires-clause-over
put_gate_of-requires-clause-over g c = subst (HasCell c.args.lib.now) (sym c.gate-item.is) (c.requires.over c.loop-gate.gate-index c.gate-item.result c.loop-gate-test.true)

pub put_gate_of-requires-clause-named : goal.put_gate_of-requires-clause-named
put_gate_of-requires-clause-named g c = subst (HasNames c.args.names.now) (sym c.gate-item.is) (c.requires.named c.loop-gate.gate-index c.gate-item.result c.loop-gate-test.true)

pub returns : goal.returns
returns g c = subst (λ (gates : List Gate). Writes g.S.Sink.taken g.S.Sink.faults c.args.out.now c.loop-gate.out (flat_map (gate_text c.args.lib.now c.args.names.now) gates)) (take_all c.loop-gate.gate-index c.args.gates.now c.loop-gate-test.false) c.loop-gate.invariant
