use Rattle.std.proofs.Common.{◌+◌, ◌++◌, ◌∷◌, [], ap, sym, ◌∙◌}
use Rattle.std.proofs.lemmas.List.{map-append}
use Rattle.lw_pool.specs.declared.id.ClassId.{ClassId}
use Rattle.lw_trade.proofs.Places.{range_more}
use Rattle.lw_trade.proofs.assembly.classes_of_gates.Goals as goal
use Rattle.lw_pool.specs.Numbers.{numbers}

pub loop-gate-preserved : goal.loop-gate-preserved
loop-gate-preserved c =
    let last = c.args.inputs + c.loop-gate.gate in
    ap numbers c.in_ok-push.ensures.items
    ∙ (map-append (λ (k : ClassId). k.0) c.loop-gate.classes.items (record { 0 = last } ∷ [])
    ∙ (ap (λ l. l ++ last ∷ []) c.loop-gate.invariant ∙ sym (range_more c.args.inputs c.loop-gate.gate)))
