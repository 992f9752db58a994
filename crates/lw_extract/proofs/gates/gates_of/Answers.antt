use Rattle.std.proofs.Common.{◌≡◌, ◌+◌, List, length, refl, sym, subst, arith}
use Rattle.std.proofs.lemmas.Option.{slice_get_read}
use Rattle.lw_netlist.specs.declared.gate.Gate.{Gate}
use Rattle.lw_extract.specs.Gates.{AreGatesOf}
use Rattle.lw_extract.proofs.GateLists.{AreFirstGates, gates_one_more, gates_all}
use Rattle.lw_extract.proofs.gates.gates_of.Goals as goal

pub loop-j-preserved : goal.loop-j-preserved
loop-j-preserved c =
    let chosen = c.args.chosen.now in
    let j = c.loop-j.j in
    let x = c.index-chosen-j.result in
    let at = slice_get_read chosen (length chosen) j x refl c.loop-j-test.true c.index-chosen-j.is in
    let more = gates_one_more c.args.pats.now c.args.nets.now c.args.inputs chosen j x c.in_ok-gate_of.field-0 c.loop-j.gates.items at c.in_ok-gate_of.ensures c.loop-j.invariant in
    subst (λ (gs : List Gate). AreFirstGates c.args.pats.now c.args.nets.now c.args.inputs chosen (j + 1) gs) (sym {A = List Gate} c.in_ok-push.ensures.items) more

pub returns : goal.returns
returns c =
    let all : c.loop-j.j ≡ length c.args.chosen.now = omega (arith, c.loop-j-test.false, c.loop-j.auto.j-end) in
    subst (λ (gs : List Gate). AreGatesOf c.args.pats.now c.args.nets.now c.args.inputs c.args.chosen.now gs) (sym c.from_vec.ensures) (gates_all c.args.pats.now c.args.nets.now c.args.inputs c.args.chosen.now c.loop-j.j c.loop-j.gates.items all c.loop-j.invariant)
