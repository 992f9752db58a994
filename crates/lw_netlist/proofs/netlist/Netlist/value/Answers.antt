use Rattle.std.proofs.Common.{◌<◌, ◌++◌, false, drop, length, sym, ap, subst, ◌∙◌, get_or, arith}
use Rattle.std.proofs.lemmas.List.{get_or_append_left}
use Rattle.lw_netlist.proofs.NetValues.{filled_values}
use Rattle.lw_netlist.proofs.netlist.Netlist.value.Goals as goal

pub returns : goal.returns
returns c =
    let x = c.args.x.now in
    let front = c.copy_from_slice.new.self in
    let rest = drop (length x) c.args.nets.now in
    let is = c.copy_from_slice.ensures.after in
    filled_values c.args.lib.now c.args.self.now x (front ++ rest) c.fill_values.new.nets c.requires.one_x (omega (arith, c.gates-gates.ensures.kept.named)) c.fill_values.ensures.inputs
    (λ i below. get_or_append_left front rest false i (subst (λ bs. i < length bs) (sym is) below) ∙ ap (λ bs. get_or bs i false) is)
    (λ j gate at. c.fill_values.ensures.values j gate (rw c.gates-gates.ensures.gates at))
