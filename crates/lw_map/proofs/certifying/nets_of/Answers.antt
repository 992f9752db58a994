use Rattle.std.proofs.Common.{Some, ◌∷◌, [], ◌++◌, get_or, ap, sym, ◌∙◌}
use Rattle.std.proofs.lemmas.List.{map_more}
use Rattle.lw_map.proofs.certifying.nets_of.Goals as goal

pub loop-class-preserved : goal.loop-class-preserved
loop-class-preserved c =
    let classes = c.args.classes.now in
    let k = c.loop-class.class-index in
    c.in_ok-push.ensures.items
    ∙ (ap (λ nets. nets ++ Some (get_or classes k (record { 0 = 0 })) ∷ []) c.loop-class.invariant ∙ sym (map_more Some classes k (record { 0 = 0 }) c.loop-class-test.true))
