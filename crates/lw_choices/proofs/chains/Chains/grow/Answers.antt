use Rattle.std.proofs.Common.{map, sym, subst}
use Rattle.lw_pool.specs.Numbers.{numbers}
use Rattle.lw_choices.specs.Chains.{AreChains, place_of}
use Rattle.lw_choices.proofs.Linking.{links_grow}
use Rattle.lw_choices.proofs.chains.Chains.grow.Goals as goal

pub invariant_of-self-2 : goal.invariant_of-self-2
invariant_of-self-2 c =
    let inside = c.self.inside in
    let all = links_grow (numbers inside.classes.items) (map place_of inside.befores.items) inside.heads.items c.self.invariant in
    subst (AreChains (numbers inside.classes.items) (map place_of inside.befores.items)) (sym c.in_ok-push.ensures.items) all
