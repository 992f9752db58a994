use Rattle.std.proofs.Common.{◌≡◌, ℕ, ◌≤◌, length, drop}
use Rattle.lw_naming.specs.Naming.{still_free, HasFree}
use Rattle.lw_naming.proofs.NamesGiven.{named}
use Rattle.lw_naming.proofs.naming.push_each.Given as goal

abbrev pub invariant-loop-gate : goal.invariant-loop-gate
invariant-loop-gate l =
    let outputs = l.owners.outputs.now in
    let roots = l.owners.roots.now in
    record {
      enough : HasFree l.free (length (drop l.gate-index l.gates));
      named : (last : ℕ) → length l.gates ≤ length (still_free l.fn.free last) → (length (drop l.gate-index l.gates) ≤ length (still_free l.free last)) × (named outputs roots l.names.items l.free last (drop l.gate-index l.gates) ≡ named outputs roots l.fn.names.items l.fn.free last l.gates);
    }
