use Rattle.std.proofs.Common.{◌≡◌, ◌+◌, ◌≤◌, ◌∷◌, length, drop, get_or, ap, sym, ◌∙◌, subst}
use Rattle.std.proofs.lemmas.List.{drop_more}
use Rattle.lw_pool.specs.declared.id.ClassId.{ClassId}
use Rattle.lw_naming.specs.Naming.{still_free}
use Rattle.lw_naming.proofs.NamesGiven.{named, gate_named}
use Rattle.lw_naming.proofs.naming.push_each.Goals as goal

pub loop-gate-preserved : goal.loop-gate-preserved
loop-gate-preserved c =
    let gates = c.args.gates.now in
    let none : ClassId = record { 0 = 0 } in
    let gate = get_or gates c.loop-gate.gate-index none in
    let rest = drop (c.loop-gate.gate-index + 1) gates in
    let split : drop c.loop-gate.gate-index gates ≡ gate ∷ rest = drop_more gates c.loop-gate.gate-index none c.loop-gate-test.true in
    let outputs = c.args.owners.now.outputs.now in
    let roots = c.args.owners.now.roots.now in
    let names = c.loop-gate.names.items in
    let next = gate_named outputs roots names c.loop-gate.free c.gate_name.new.free gate rest c.in_ok-gate_name.field-0 c.in_ok-gate_name.ensures in
    let has = c.loop-gate.invariant.enough in
    record {
      enough = record {
        last = has.last;
        small = has.small;
        enough = (next has.last (subst (λ xs. length xs ≤ length (still_free c.loop-gate.free has.last)) split has.enough)).0;
      };
      named = λ last long.
          let (room, same) = c.loop-gate.invariant.named last long in
          let (left, step) = next last (subst (λ xs. length xs ≤ length (still_free c.loop-gate.free last)) split room) in
          (left, ap (λ ns. named outputs roots ns c.gate_name.new.free last rest) c.in_ok-push.ensures.items ∙ step ∙ ap (named outputs roots names c.loop-gate.free last) (sym split) ∙ same);
    }
