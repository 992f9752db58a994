use Rattle.std.proofs.Common.{◌∷◌, ◌++◌, [], ap, ap₂, map, sym, ◌∙◌, arith}
use Rattle.std.proofs.lemmas.List.{map_more, take_all}
use Rattle.lw_net.specs.Signs.{asked}
use Rattle.lw_form.proofs.occurring.rows_of.Goals as goal

pub loop-cube-preserved : goal.loop-cube-preserved
loop-cube-preserved c =
    c.in_ok-push.ensures.items
    ∙ (ap₂ (λ l x. l ++ x ∷ []) c.loop-cube.invariant (c.in_ok-of_signs.ensures ∙ ap (map asked) (c.as_slice.ensures.bytes ∙ c.cube-item.is))
    ∙ sym (map_more (map asked) c.args.cubes.now c.loop-cube.cube-index c.cube-item.result c.loop-cube-test.true))

pub returns : goal.returns
returns c = c.loop-cube.invariant ∙ ap (map (map asked)) (take_all c.loop-cube.cube-index c.args.cubes.now (omega (arith, c.loop-cube-test.false)))
