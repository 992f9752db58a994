use Rattle.std.proofs.Common.{◌∙◌, List, ℕ, ap, subst₂, sym}
use Rattle.lw_net.specs.Networks.{NetworkParts}
use Rattle.lw_net.specs.Unions.{ArePlacesIn}
use Rattle.lw_joined.specs.Unions.{own_places}
use Rattle.lw_joined.proofs.Unions.{own_fit}
use Rattle.lw_joined.proofs.uniting.first_union.Goals as goal

pub with_other-requires : goal.with_other-requires
with_other-requires c =
    subst₂ (λ (n : ℕ) (ps : List ℕ). ArePlacesIn n c.args.net.now ps) (sym (ap (λ (n : NetworkParts). n.inputs) c.in_ok-bare.ensures))
    (sym (c.deref.ensures.value ∙ (c.in_ok-places.ensures ∙ ap own_places c.inputs.ensures.inputs))) (own_fit c.args.net.now)
