use Rattle.std.proofs.Common.{◌≡◌, ◌≤◌, ◌+◌, ◌++◌, [], length, map, ap, sym, ◌∙◌, subst, arith, length-append, append-nil}
use Rattle.std.proofs.lemmas.List.{length-map}
use Rattle.lw_io.proofs.Putting.{Writes-none}
use Rattle.lw_verilog.specs.Texts.{gates_text}
use Rattle.lw_verilog.proofs.PutParts.{Writes-is, gate-put, gates-end, passed-le}
use Rattle.lw_verilog.proofs.writing.put_gates.Goals as goal
use Rattle.lw_netlist.specs.Plain.{port_name}

pub loop-gate-init : goal.loop-gate-init
loop-gate-init g c =
    let outputs = map port_name c.args.all.now.outputs.now in
    let taken = c.args.all.now.names.now ++ outputs in
    let long : length taken ≡ length c.args.all.now.names.now + length c.args.all.now.outputs.now = length-append c.args.all.now.names.now outputs ∙ ap (λ n. length c.args.all.now.names.now + n) (length-map c.args.all.now.outputs.now port_name) in
    record {
      stands = c.new-taken.ensures;
      put = record {
        text = [];
        writes = Writes-none;
        whole = ap (λ n. gates_text c.args.lib.now c.args.all.now.names.now taken n 1 c.args.gates.now) (sym long);
        few = omega (arith, long);
      };
    }

pub overflow_add-number : goal.overflow_add-number
overflow_add-number g c =
    let outputs = map port_name c.args.all.now.outputs.now in
    let taken = c.args.all.now.names.now ++ outputs in
    let long : length taken ≡ length c.args.all.now.names.now + length c.args.all.now.outputs.now = length-append c.args.all.now.names.now outputs ∙ ap (λ n. length c.args.all.now.names.now + n) (length-map c.args.all.now.outputs.now port_name) in
    let most : c.skipped-count.result ≤ c.loop-gate.most = subst (λ k. k ≤ c.loop-gate.most) (sym c.skipped-count.ensures.skipped) (passed-le taken c.loop-gate.most c.loop-gate.number) in
    omega (arith, long, most, c.loop-gate.invariant.put.few, c.loop-gate-test.true, c.room-room.ensures, c.room-room.type_inv)

pub overflow_sub-most : goal.overflow_sub-most
overflow_sub-most g c = subst (λ k. k ≤ c.loop-gate.most) (sym c.skipped-count.ensures.skipped) (passed-le (c.args.all.now.names.now ++ map port_name c.args.all.now.outputs.now) c.loop-gate.most c.loop-gate.number)

pub overflow_add-number-in-loop-gate : goal.overflow_add-number-in-loop-gate
overflow_add-number-in-loop-gate g c =
    let outputs = map port_name c.args.all.now.outputs.now in
    let taken = c.args.all.now.names.now ++ outputs in
    let long : length taken ≡ length c.args.all.now.names.now + length c.args.all.now.outputs.now = length-append c.args.all.now.names.now outputs ∙ ap (λ n. length c.args.all.now.names.now + n) (length-map c.args.all.now.outputs.now port_name) in
    let most : c.skipped-count.result ≤ c.loop-gate.most = subst (λ k. k ≤ c.loop-gate.most) (sym c.skipped-count.ensures.skipped) (passed-le taken c.loop-gate.most c.loop-gate.number) in
    omega (arith, long, most, c.loop-gate.invariant.put.few, c.loop-gate-test.true, c.room-room.ensures, c.room-room.type_inv)

pub overflow_add-number-in-loop-gate-2 : goal.overflow_add-number-in-loop-gate-2
overflow_add-number-in-loop-gate-2 g c =
    let outputs = map port_name c.args.all.now.outputs.now in
    let taken = c.args.all.now.names.now ++ outputs in
    let long : length taken ≡ length c.args.all.now.names.now + length c.args.all.now.outputs.now = length-append c.args.all.now.names.now outputs ∙ ap (λ n. length c.args.all.now.names.now + n) (length-map c.args.all.now.outputs.now port_name) in
    let most : c.skipped-count.result ≤ c.loop-gate.most = subst (λ k. k ≤ c.loop-gate.most) (sym c.skipped-count.ensures.skipped) (passed-le taken c.loop-gate.most c.loop-gate.number) in
    omega (arith, long, most, c.loop-gate.invariant.put.few, c.loop-gate-test.true, c.room-room.ensures, c.room-room.type_inv)

pub loop-gate-preserved : goal.loop-gate-preserved
loop-gate-preserved g c =
    record {
      stands = c.skipped-count.ensures.stands;
      put = gate-put c.loop-gate.invariant.put c.loop-gate-test.true c.gate-item.result c.gate-item.is c.skipped-count.result c.skipped-count.ensures.skipped c.put_gate_of.ensures;
    }

pub returns : goal.returns
returns g c =
    let taken = c.args.all.now.names.now ++ map port_name c.args.all.now.outputs.now in
    let over : length c.args.gates.now ≤ c.loop-gate.gate-index = omega (arith, c.loop-gate-test.false) in
    Writes-is c.loop-gate.invariant.put.writes
    (sym (append-nil c.loop-gate.invariant.put.text)
    ∙ (ap (λ l. c.loop-gate.invariant.put.text ++ l) (sym (gates-end c.args.lib.now c.args.all.now.names.now taken c.loop-gate.most c.loop-gate.number c.args.gates.now c.loop-gate.gate-index over)) ∙ c.loop-gate.invariant.put.whole))
