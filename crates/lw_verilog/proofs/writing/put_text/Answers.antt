use Rattle.std.proofs.Common.{◌++◌, All, length, map, ap, ap₂, sym, ◌∙◌, subst, codes}
use Rattle.std.specs.List.{flat_map}
use Rattle.lw_io.proofs.Putting.{Writes-both}
use Rattle.lw_mapped.specs.Texts.{names_of_outputs, HasNames}
use Rattle.lw_verilog.specs.Texts.{assignment_text, declaration, gates_text, wire_text}
use Rattle.lw_mapped.proofs.TextParts.{gates_named}
use Rattle.lw_verilog.proofs.PutParts.{Writes-is}
use Rattle.lw_verilog.proofs.writing.put_text.Goals as goal
use Rattle.lw_netlist.specs.Plain.{port_name}

pub put_gates-requires-clause-named : goal.put_gates-requires-clause-named
put_gates-requires-clause-named g c =
    subst (λ ns. All (HasNames ns) c.gates.result.now) (sym c.names-names.ensures.names)
    (subst (All (HasNames c.args.netlist.now.names)) (sym c.gates.ensures.gates) (gates_named c.args.netlist.now c.gates.ensures.kept))

pub returns : goal.returns
returns g c =
    let n = c.args.netlist.now in
    let cells = c.args.lib.now in
    let outputs = c.outputs-outputs.ensures.outputs in
    let names = c.names-names.ensures.names in
    Writes-both c.put_header.ensures
    (Writes-both (Writes-is c.put_declarations.ensures (ap (flat_map (declaration (codes "input "))) c.input_names.ensures))
    (Writes-both (Writes-is c.put_port_declarations.ensures (ap (λ ps. flat_map (declaration (codes "output ")) (map port_name ps)) outputs))
    (Writes-both (Writes-is c.put_wires.ensures (ap₂ (λ ps ns. flat_map (wire_text (map port_name ps)) ns) outputs c.gate_nets.ensures))
    (Writes-both (Writes-is c.put_gates.ensures
    (ap₂ (λ ns ps. gates_text cells ns (ns ++ map port_name ps) (length (ns ++ map port_name ps)) 1 c.gates.result.now) names outputs
    ∙ ap (gates_text cells n.names (n.names ++ names_of_outputs n) (length (n.names ++ names_of_outputs n)) 1) c.gates.ensures.gates))
    (Writes-both (Writes-is c.put_assignments.ensures (ap₂ (λ ns ps. flat_map (assignment_text ns) ps) names outputs)) c.put.ensures)))))
