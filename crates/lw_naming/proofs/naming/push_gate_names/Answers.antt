use Rattle.std.proofs.Common.{◌+◌, ◌<◌, ◌≤◌, ◌^◌, ◌++◌, length, length-append, ap, sym, ◌∙◌, subst, arith, ap₂}
use Rattle.lw_laws.specs.Names.{gate_names}
use Rattle.lw_naming.specs.Naming.{still_free}
use Rattle.lw_naming.proofs.FreeNames.{enough_free}
use Rattle.lw_naming.proofs.naming.push_gate_names.Goals as goal
use Rattle.lw_pool.specs.Numbers.{numbers}

pub push_each-requires : goal.push_each-requires
push_each-requires c =
    let count = length c.args.gates.now in
    let names = c.args.inputs.now ++ c.args.outputs.now in
    let long = length-append c.args.inputs.now c.args.outputs.now in
    let small : 1 + (count + length names) < 2 ^ 64 = omega arith in
    record {
      last = 1 + (count + length names);
      small = small;
      enough = subst (λ ns. count ≤ length ns) (sym (c.in_ok-free.ensures count)) (enough_free names count small);
    }

pub returns : goal.returns
returns c =
    let inputs = c.args.inputs.now in
    let outputs = c.args.outputs.now in
    let gates = c.args.gates.now in
    let count = length gates in
    let names = inputs ++ outputs in
    let long = length-append inputs outputs in
    let free = c.in_ok-free.ensures count in
    let enough = subst (λ ns. count ≤ length ns) (sym free) (enough_free names count (omega arith)) in
    let owners = c.in_ok-owners.owners in
    let frees = still_free c.in_ok-free.free (1 + (count + length names)) in
    c.in_ok-push_each.ensures (1 + (count + length names)) enough
    ∙ ap (λ ns. c.args.names.now.items ++ ns)
    (ap₂ (λ os rs. gate_names os (numbers rs) frees (numbers gates)) c.in_ok-owners.ensures.outputs c.in_ok-owners.ensures.roots
    ∙ ap (λ fs. gate_names outputs (numbers c.args.roots.now) fs (numbers gates)) free)
