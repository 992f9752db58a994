use Rattle.std.proofs.Common.{◌+◌, drop, ap, sym, ◌∙◌}
use Rattle.std.specs.List.{flat_map}
use Rattle.lw_netlist.specs.declared.gate.Gate.{Gate}
use Rattle.lw_verilog.specs.Sayable.{cell_tied, cell_of, first_or_none}
use Rattle.lw_verilog.proofs.Finding.{first-flat, or-some, or-none}
use Rattle.lw_verilog.proofs.refusing.first_tied.Goals as goal

pub returns-then-is_some : goal.returns-then-is_some
returns-then-is_some c =
    let gates = c.args.gates.now in
    let i = c.loop-gate.gate-index in
    or-some c.tied-name.result (λ n. n.now) _ (first_or_none (flat_map (λ (gate : Gate). cell_tied (cell_of c.args.lib.now gate)) (drop (i + 1) gates))) (sym c.is_some.ensures ∙ c.if-is_some.true) (c.tied-name.ensures ∙ ap (λ (g : Gate). first_or_none ((λ (gate : Gate). cell_tied (cell_of c.args.lib.now gate)) g)) c.gate-item.is)
    ∙ (sym (first-flat (λ (gate : Gate). cell_tied (cell_of c.args.lib.now gate)) gates i c.gate-item.result c.loop-gate-test.true) ∙ c.loop-gate.invariant)

pub loop-gate-preserved : goal.loop-gate-preserved
loop-gate-preserved c =
    let gates = c.args.gates.now in
    let i = c.loop-gate.gate-index in
    sym (first-flat (λ (gate : Gate). cell_tied (cell_of c.args.lib.now gate)) gates i c.gate-item.result c.loop-gate-test.true
    ∙ or-none c.tied-name.result (λ n. n.now) _ (first_or_none (flat_map (λ (gate : Gate). cell_tied (cell_of c.args.lib.now gate)) (drop (i + 1) gates))) (sym c.is_some.ensures ∙ c.if-is_some.false) (c.tied-name.ensures ∙ ap (λ (g : Gate). first_or_none ((λ (gate : Gate). cell_tied (cell_of c.args.lib.now gate)) g)) c.gate-item.is))
    ∙ c.loop-gate.invariant
