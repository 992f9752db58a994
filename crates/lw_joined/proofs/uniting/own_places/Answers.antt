use Rattle.std.proofs.Common.{◌++◌, ◌∷◌, [], ◌∙◌, ap, sym}
use Rattle.lw_joined.proofs.Unions.{own_more}
use Rattle.lw_joined.proofs.uniting.own_places.Goals as goal

pub loop-place-preserved : goal.loop-place-preserved
loop-place-preserved c = c.in_ok-push.ensures.items ∙ (ap (λ ps. ps ++ c.loop-place.place ∷ []) c.loop-place.invariant ∙ sym (own_more c.loop-place.place))
