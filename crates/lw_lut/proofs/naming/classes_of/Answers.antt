use Rattle.std.proofs.Common.{◌++◌, ◌∷◌, [], get_or, take, ap, sym, ◌∙◌}
use Rattle.std.proofs.lemmas.List.{map-append, take_all, take_more}
use Rattle.lw_pool.specs.declared.id.ClassId.{ClassId}
use Rattle.lw_lut.specs.Nets.{table_classes}
use Rattle.lw_lut.specs.declared.table.Table.{Table}
use Rattle.lw_lut.proofs.naming.classes_of.Goals as goal
use Rattle.lw_pool.specs.Numbers.{numbers}

pub loop-x-preserved : goal.loop-x-preserved
loop-x-preserved c =
    let tables = c.args.tables.now in
    let k = c.loop-x.x-index in
    let x = c.x-item.result in
    let more = ap table_classes (take_more tables k x c.loop-x-test.true) ∙ map-append (λ (t : Table). t.out.0) (take k tables) (get_or tables k x ∷ []) in
    let here = ap (λ (t : Table). table_classes (take k tables) ++ t.out.0 ∷ []) c.x-item.is in
    ap numbers c.in_ok-push.ensures.items ∙ (map-append (λ (q : ClassId). q.0) c.loop-x.classes.items (x.out ∷ []) ∙ (ap (λ ns. ns ++ x.out.0 ∷ []) c.loop-x.invariant ∙ (here ∙ sym more)))

pub returns : goal.returns
returns c = c.loop-x.invariant ∙ ap table_classes (take_all c.loop-x.x-index c.args.tables.now c.loop-x-test.false)
