use Rattle.std.proofs.Common.{◌+◌, drop, ap, sym, ◌∙◌}
use Rattle.std.specs.Prelude.{find}
use Rattle.std.specs.List.{flat_map}
use Rattle.lw_netlist.specs.declared.gate.Gate.{Gate}
use Rattle.lw_verilog.specs.Sayable.{is_hidden, gate_names}
use Rattle.lw_verilog.proofs.Finding.{find-flat, or-some, or-none}
use Rattle.lw_verilog.proofs.refusing.hidden_gate.Goals as goal

pub returns-then-is_some : goal.returns-then-is_some
returns-then-is_some c =
    let gates = c.args.gates.now in
    let i = c.loop-gate.gate-index in
    or-some c.hidden_of_gate-name.result (λ n. n.now) _ (find is_hidden (flat_map (gate_names c.args.lib.now c.args.names.now) (drop (i + 1) gates))) (sym c.is_some.ensures ∙ c.if-is_some.true) (c.hidden_of_gate-name.ensures ∙ ap (λ (g : Gate). find is_hidden ((gate_names c.args.lib.now c.args.names.now) g)) c.gate-item.is)
    ∙ (sym (find-flat is_hidden (gate_names c.args.lib.now c.args.names.now) gates i c.gate-item.result c.loop-gate-test.true) ∙ c.loop-gate.invariant)

pub loop-gate-preserved : goal.loop-gate-preserved
loop-gate-preserved c =
    let gates = c.args.gates.now in
    let i = c.loop-gate.gate-index in
    sym (find-flat is_hidden (gate_names c.args.lib.now c.args.names.now) gates i c.gate-item.result c.loop-gate-test.true
    ∙ or-none c.hidden_of_gate-name.result (λ n. n.now) _ (find is_hidden (flat_map (gate_names c.args.lib.now c.args.names.now) (drop (i + 1) gates))) (sym c.is_some.ensures ∙ c.if-is_some.false) (c.hidden_of_gate-name.ensures ∙ ap (λ (g : Gate). find is_hidden ((gate_names c.args.lib.now c.args.names.now) g)) c.gate-item.is))
    ∙ c.loop-gate.invariant
